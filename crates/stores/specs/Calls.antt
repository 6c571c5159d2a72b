-- When each call of a store is refused, and what it answers and leaves.
use Rattle.std.specs.Prelude.{◌≡◌, ℕ, ◌-◌, ◌^◌, cond, Some, None, Option, Result, MatchResult, ◌==◌, nat_lt}
use Rattle.stores.specs.declared.refusal.Layer.{Layer}
use Rattle.stores.specs.Refusals.{Reason, reason_by}
use Rattle.stores.specs.Model.{Contents, size}

-- a call that names cell i: 1 and the cell, exactly when there is no such cell
abbrev pub no_cell : {X : Type 0} → Layer → Contents X → ℕ → Option Reason
no_cell layer m i = cond (nat_lt i (size m)) None (Some (reason_by layer 1 i))

-- set end: 1 exactly when there are no cells
abbrev pub no_end : {X : Type 0} → Layer → Contents X → Option Reason
no_end layer m = cond (size m == 0) (Some (reason_by layer 1 0)) None

-- next rank: 1 as above; then 6 exactly when the head is 2^40
abbrev pub no_rank : {X : Type 0} → Layer → Contents X → Option Reason
no_rank layer m = cond (size m == 0) (Some (reason_by layer 1 0)) (cond (m.head == 2 ^ 40) (Some (reason_by layer 6 0)) None)

-- clear: 1 as above; then 2 exactly when the start is above 2^40 - 1
abbrev pub no_clear : {X : Type 0} → Layer → Contents X → ℕ → Option Reason
no_clear layer m start =
    cond (size m == 0) (Some (reason_by layer 1 0)) (cond (nat_lt (2 ^ 40 - 1) start) (Some (reason_by layer 2 0)) None)

-- r is the answer v of a question, or its refusal for exactly the reason `why`
abbrev pub Answered : {V F : Type 0} → (F → Reason) → Option Reason → V → Result V F → Type 0
Answered reason why v r = MatchResult r (λ w. (why ≡ None) × (w ≡ v)) (λ f. why ≡ Some (reason f))

-- r is the answer v of an action that takes the store s to t, of the model `new`;
-- or its refusal for exactly the reason `why`, and t is all of s
abbrev pub Done : {S V F M : Type 0} → (F → Reason) → Option Reason → V → (S → M) → M → S → S → Result V F → Type 0
Done reason why v model new s t r =
    MatchResult r (λ w. (why ≡ None) × (w ≡ v) × (model t ≡ new)) (λ f. (why ≡ Some (reason f)) × (t ≡ s))

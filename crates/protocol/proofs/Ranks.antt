-- The ranks handed out, over a claim, a letting go and a delivery.
use Rattle.std.proofs.Common.{◌≡◌, ℕ, suc, ◌+◌, ◌<◌, ◌≤◌, ◌≢◌, ◌⊎◌, List, [], ◌∷◌, ◌++◌, Some, None, Option, sym, ap, ◌∙◌, subst, inl, inr, arith}
use native.Mathlib.Decide.{ℕ_discrete}
use Rattle.protocol.specs.declared.record.Entry.{Entry}
use Rattle.protocol.specs.State.{put}
use Rattle.protocol.specs.Account.{In, times, CutOff}
use Rattle.protocol.specs.Promise.{entry}
use Rattle.protocol.proofs.Tables.{put_same, put_other, put_at, times_same, times_other, in_one_more, some_eq, none_some}
use Rattle.protocol.proofs.Invariant.{Ranks}

module _ {X : Type 0} {workers start head : ℕ} {held : ℕ → Option ℕ} {claimed : List ℕ} {log : List (Entry X)} {let_go skipped : List ℕ} {cut : Option ℕ} (R : Ranks workers start head held claimed log let_go skipped cut) where
  -- more is skipped, and what was cut off is so still
  pub ranks_more : (skipped' : List ℕ) (cut' : Option ℕ) → ((r : ℕ) → In r skipped → In r skipped') → ((r : ℕ) → CutOff cut r → CutOff cut' r) → Ranks workers start head held claimed log let_go skipped' cut'
  ranks_more skipped' cut' f g = record {
    low = R.low;
    claimed_between = R.claimed_between;
    held_claimed = R.held_claimed;
    held_in_table = R.held_in_table;
    held_by_one = R.held_by_one;
    held_not_else = R.held_not_else;
    let_go_not_logged = R.let_go_not_logged;
    let_go_claimed = R.let_go_claimed;
    logged_claimed = R.logged_claimed;
    fresh = R.fresh;
    fate = R.fate;
    let_go_why = λ r m. elim (R.let_go_why r m) [ inl q ↦ inl (f r q) | inr q ↦ inr (g r q) ];
  }

  module _ (k : ℕ) where
    -- worker k, that holds nothing, gets the next rank
    module _ (in_table : k < workers) (none_is : held k ≡ None) where
      abbrev given : ℕ → Option ℕ
      given = put held k (Some head)

      -- who holds a rank now is k with the new one, or another as before
      given_was : (j r : ℕ) → given j ≡ Some r → ((j ≡ k) × (r ≡ head)) ⊎ ((j ≢ k) × (held j ≡ Some r))
      given_was j r = put_at (λ h. h ≡ Some r → ((j ≡ k) × (r ≡ head)) ⊎ ((j ≢ k) × (held j ≡ Some r))) held k (Some head) j (λ q e. inl (q, sym (some_eq head r e))) (λ q e. inr (q, e))

      given_one : (i j r : ℕ) → ((i ≡ k) × (r ≡ head)) ⊎ ((i ≢ k) × (held i ≡ Some r)) → ((j ≡ k) × (r ≡ head)) ⊎ ((j ≢ k) × (held j ≡ Some r)) → i ≡ j
      given_one i j r (inl p) (inl q) = p.0 ∙ sym q.0
      given_one i j r (inl p) (inr q) = let b : r < head = (R.claimed_between r (R.held_claimed j r q.1)).1 in let e : r ≡ head = p.1 in omega arith
      given_one i j r (inr p) (inl q) = let b : r < head = (R.claimed_between r (R.held_claimed i r p.1)).1 in let e : r ≡ head = q.1 in omega arith
      given_one i j r (inr p) (inr q) = R.held_by_one i j r p.1 q.1

      given_only : (r : ℕ) (j : ℕ) → ((j ≡ k) × (r ≡ head)) ⊎ ((j ≢ k) × (held j ≡ Some r)) → (times r log ≡ 0) × (In r let_go → ⊥)
      given_only r j (inl p) = (R.fresh r (let e : r ≡ head = p.1 in omega arith), λ m. let b : r < head = (R.claimed_between r (R.let_go_claimed r m)).1 in let e : r ≡ head = p.1 in omega arith)
      given_only r j (inr p) = R.held_not_else j r p.1

      given_claimed : (r : ℕ) (j : ℕ) → ((j ≡ k) × (r ≡ head)) ⊎ ((j ≢ k) × (held j ≡ Some r)) → In r (head ∷ claimed)
      given_claimed r j (inl p) = inl p.1
      given_claimed r j (inr p) = inr (R.held_claimed j r p.1)

      given_in_table : (r : ℕ) (j : ℕ) → ((j ≡ k) × (r ≡ head)) ⊎ ((j ≢ k) × (held j ≡ Some r)) → j < workers
      given_in_table r j (inl p) = let e : j ≡ k = p.0 in omega arith
      given_in_table r j (inr p) = R.held_in_table j r p.1

      other_than : (j r : ℕ) → held j ≡ Some r → j ≢ k
      other_than j r e q = none_some r (sym none_is ∙ (ap held (sym q) ∙ e))

      given_fate : (r : ℕ) → ((j : ℕ) × (held j ≡ Some r)) ⊎ ((times r log ≡ 1) ⊎ In r let_go) → ((j : ℕ) × (given j ≡ Some r)) ⊎ ((times r log ≡ 1) ⊎ In r let_go)
      given_fate r (inl (j, e)) = inl (j, put_other held k (Some head) j (other_than j r e) ∙ e)
      given_fate r (inr q) = inr q

      pub ranks_claim : Ranks workers start (head + 1) given (head ∷ claimed) log let_go skipped cut
      ranks_claim = record {
        low = let b : start ≤ head = R.low in omega arith;
        claimed_between = λ r m. elim m [ inl e ↦ let b : start ≤ head = R.low in (omega arith, omega arith) | inr m ↦ let q = R.claimed_between r m in (q.0, let b : r < head = q.1 in omega arith) ];
        held_claimed = λ j r e. given_claimed r j (given_was j r e);
        held_in_table = λ j r e. given_in_table r j (given_was j r e);
        held_by_one = λ i j r e f. given_one i j r (given_was i r e) (given_was j r f);
        held_not_else = λ j r e. given_only r j (given_was j r e);
        let_go_not_logged = R.let_go_not_logged;
        let_go_claimed = λ r m. inr (R.let_go_claimed r m);
        logged_claimed = λ e m. inr (R.logged_claimed e m);
        fresh = λ r h. R.fresh r (omega arith);
        fate = λ r m. elim m [ inl e ↦ inl (k, put_same held k (Some head) ∙ ap Some (sym e)) | inr m ↦ given_fate r (R.fate r m) ];
        let_go_why = R.let_go_why;
      }

    -- worker k, that holds r₀, holds it no more
    module _ (r₀ : ℕ) (has : held k ≡ Some r₀) where
      abbrev less : ℕ → Option ℕ
      less = put held k None

      less_was : (j r : ℕ) → less j ≡ Some r → (j ≢ k) × (held j ≡ Some r)
      less_was j r = put_at (λ h. h ≡ Some r → (j ≢ k) × (held j ≡ Some r)) held k None j (λ q e. absurd (none_some r e)) (λ q e. (q, e))

      not_same : (j r : ℕ) → less j ≡ Some r → r ≢ r₀
      not_same j r e q = let u = less_was j r e in u.0 (R.held_by_one j k r u.1 (has ∙ ap Some (sym q)))

      -- it is let go, for a reason
      pub ranks_let_go : In r₀ skipped ⊎ CutOff cut r₀ → Ranks workers start head less claimed log (r₀ ∷ let_go) skipped cut
      ranks_let_go why = record {
        low = R.low;
        claimed_between = R.claimed_between;
        held_claimed = λ j r e. R.held_claimed j r (less_was j r e).1;
        held_in_table = λ j r e. R.held_in_table j r (less_was j r e).1;
        held_by_one = λ i j r e f. R.held_by_one i j r (less_was i r e).1 (less_was j r f).1;
        held_not_else = λ j r e. let q = R.held_not_else j r (less_was j r e).1 in (q.0, λ m. elim m [ inl d ↦ not_same j r e d | inr m ↦ q.1 m ]);
        let_go_not_logged = λ r m. elim m [ inl e ↦ subst (λ v. times v log ≡ 0) (sym e) (R.held_not_else k r₀ has).0 | inr m ↦ R.let_go_not_logged r m ];
        let_go_claimed = λ r m. elim m [ inl e ↦ subst (λ v. In v claimed) (sym e) (R.held_claimed k r₀ has) | inr m ↦ R.let_go_claimed r m ];
        logged_claimed = R.logged_claimed;
        fresh = R.fresh;
        fate = λ r m. let_go_fate r (R.fate r m);
        let_go_why = λ r m. elim m [ inl e ↦ subst (λ v. In v skipped ⊎ CutOff cut v) (sym e) why | inr m ↦ R.let_go_why r m ];
      }
        where
          let_go_one : (r j : ℕ) → held j ≡ Some r → Dec (j ≡ k) → ((i : ℕ) × (less i ≡ Some r)) ⊎ ((times r log ≡ 1) ⊎ In r (r₀ ∷ let_go))
          let_go_one r j e (yes q) = inr (inr (inl (some_eq r r₀ (sym e ∙ (ap held q ∙ has)))))
          let_go_one r j e (no q) = inl (j, put_other held k None j q ∙ e)

          let_go_fate : (r : ℕ) → ((j : ℕ) × (held j ≡ Some r)) ⊎ ((times r log ≡ 1) ⊎ In r let_go) → ((j : ℕ) × (less j ≡ Some r)) ⊎ ((times r log ≡ 1) ⊎ In r (r₀ ∷ let_go))
          let_go_fate r (inl (j, e)) = let_go_one r j e (ℕ_discrete j k)
          let_go_fate r (inr (inl q)) = inr (inl q)
          let_go_fate r (inr (inr q)) = inr (inr (inr q))

      -- it is logged
      module _ (x : X) where
        abbrev more : List (Entry X)
        more = log ++ (entry r₀ k x ∷ [])

        now_logged : times r₀ more ≡ 1
        now_logged = times_same log (entry r₀ k x) ∙ ap suc (R.held_not_else k r₀ has).0

        else_same : (r : ℕ) → r ≢ r₀ → times r more ≡ times r log
        else_same r h = times_other log (entry r₀ k x) r (λ e. h (sym e))

        log_one : (r j : ℕ) → held j ≡ Some r → Dec (j ≡ k) → ((i : ℕ) × (less i ≡ Some r)) ⊎ ((times r more ≡ 1) ⊎ In r let_go)
        log_one r j e (yes q) = inr (inl (subst (λ v. times v more ≡ 1) (some_eq r₀ r (sym has ∙ (ap held (sym q) ∙ e))) now_logged))
        log_one r j e (no q) = inl (j, put_other held k None j q ∙ e)

        logged_not_held : (r : ℕ) → times r log ≡ 1 → r ≢ r₀
        logged_not_held r e q = let u : times r₀ log ≡ 0 = (R.held_not_else k r₀ has).0 in let v : times r₀ log ≡ 1 = ap (λ w. times w log) (sym q) ∙ e in omega arith

        log_fate : (r : ℕ) → ((j : ℕ) × (held j ≡ Some r)) ⊎ ((times r log ≡ 1) ⊎ In r let_go) → ((j : ℕ) × (less j ≡ Some r)) ⊎ ((times r more ≡ 1) ⊎ In r let_go)
        log_fate r (inl (j, e)) = log_one r j e (ℕ_discrete j k)
        log_fate r (inr (inl q)) = inr (inl (else_same r (logged_not_held r q) ∙ q))
        log_fate r (inr (inr q)) = inr (inr q)

        pub ranks_log : Ranks workers start head less claimed more let_go skipped cut
        ranks_log = record {
          low = R.low;
          claimed_between = R.claimed_between;
          held_claimed = λ j r e. R.held_claimed j r (less_was j r e).1;
          held_in_table = λ j r e. R.held_in_table j r (less_was j r e).1;
          held_by_one = λ i j r e f. R.held_by_one i j r (less_was i r e).1 (less_was j r f).1;
          held_not_else = λ j r e. let q = R.held_not_else j r (less_was j r e).1 in (else_same r (not_same j r e) ∙ q.0, q.1);
          let_go_not_logged = λ r m. else_same r (λ e. (R.held_not_else k r₀ has).1 (subst (λ v. In v let_go) e m)) ∙ R.let_go_not_logged r m;
          let_go_claimed = R.let_go_claimed;
          logged_claimed = λ e m. elim (in_one_more e (entry r₀ k x) log m) [ inl h ↦ R.logged_claimed e h | inr q ↦ subst (λ v. In v.rank claimed) (sym q) (R.held_claimed k r₀ has) ];
          fresh = λ r h. else_same r (let b : r₀ < head = (R.claimed_between r₀ (R.held_claimed k r₀ has)).1 in omega arith) ∙ R.fresh r h;
          fate = λ r m. log_fate r (R.fate r m);
          let_go_why = R.let_go_why;
        }

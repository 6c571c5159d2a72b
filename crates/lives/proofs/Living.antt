-- A life that goes on by one call.
use Rattle.std.proofs.Common.{◌≡◌, ℕ, ◌+◌, ◌<◌, ◌≤◌, List, [], ◌∷◌, ◌++◌, length, get_or, take, set, sym, refl, ap, ◌∙◌, arith, length-take}
use Rattle.std.proofs.lemmas.List.{take_more, take_all}
use Rattle.protocol.specs.declared.answer.Call.{Call}
use Rattle.protocol.specs.declared.answer.Answer.{Answer}
use Rattle.protocol.specs.Lives.{Queue, make, after, answers, filled}
use Rattle.protocol.proofs.Lives.{after_more, answers_more, length_answers}
use Rattle.protocol.proofs.Filling.{filled_none, filled_more}
use Rattle.lives.specs.Replays.{Lived}

module _ {X : Type 0} (blank : X) (q : Queue X) (slots : List (Answer X)) where
  pub lived_none : Lived blank q [] q slots slots
  lived_none = record { effect = refl; told = sym (filled_none slots) }

  module _ (calls : List (Call X)) where
    pub lived_more : (i : ℕ) (c : Call X) (mid new : Queue X) (before now : List (Answer X)) → i < length calls → c ≡ get_or calls i c →
        Lived blank q (take i calls) mid slots before → (make blank mid c).queue ≡ new → now ≡ set before i (make blank mid c).answer →
        Lived blank q (take (i + 1) calls) new slots now
    lived_more i c mid new before now h is lived goes wrote =
        let more : take i calls ++ (c ∷ []) ≡ take (i + 1) calls = sym (take_more calls i c h ∙ ap (λ d. take i calls ++ (d ∷ [])) (sym is)) in
        let at : length (answers blank q (take i calls)) ≡ i = length_answers blank (take i calls) q ∙ length-take i calls ∙ (omega arith) in
        record {
          effect = sym goes ∙ ap (λ s. (make blank s c).queue) lived.effect ∙ sym (after_more blank (take i calls) q c) ∙ ap (after blank q) more;
          told = wrote ∙ ap (λ l. set l i (make blank mid c).answer) lived.told
              ∙ ap (λ s. set (filled slots (answers blank q (take i calls))) i (make blank s c).answer) lived.effect
              ∙ ap (λ k. set (filled slots (answers blank q (take i calls))) k (make blank (after blank q (take i calls)) c).answer) (sym at)
              ∙ sym (filled_more slots (answers blank q (take i calls)) (make blank (after blank q (take i calls)) c).answer)
              ∙ ap (filled slots) (sym (answers_more blank (take i calls) q c))
              ∙ ap (λ cs. filled slots (answers blank q cs)) more;
        }

    pub lived_all : (i : ℕ) (new : Queue X) (now : List (Answer X)) → length calls ≤ i → Lived blank q (take i calls) new slots now → Lived blank q calls new slots now
    lived_all i new now h lived =
        let all = take_all i calls h in
        record { effect = lived.effect ∙ ap (after blank q) all; told = lived.told ∙ ap (λ cs. filled slots (answers blank q cs)) all }

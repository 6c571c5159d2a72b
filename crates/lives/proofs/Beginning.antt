-- What an accepted lay out says of the queue that it leaves.
use Rattle.std.proofs.Common.{◌≡◌, ℕ, ◌<◌, Bool, true, false, cond, eqb, List, map, Some, None, Option, refl, ap, ◌∙◌, arith}
use Rattle.std.proofs.lemmas.Bool.{eqb-false}
use Rattle.stores.specs.Refusals.{Reason}
use Rattle.stores.specs.Model.{Contents, size, cleared}
use Rattle.protocol.specs.declared.record.Worker.{Worker}
use Rattle.protocol.specs.Records.{Receiver, Log}
use Rattle.protocol.specs.Rules.{unless, no_lay_out, laid_receiver, idled, emptied_log}
use Rattle.protocol.specs.State.{free}
use Rattle.protocol.specs.Views.{laid_out}
use Rattle.protocol.specs.Lives.{queue_of}

not_empty : (b : Bool) (why : Reason) (rest : Option Reason) → cond b (Some why) rest ≡ None → b ≡ false
not_empty true why rest e = absurd (let z : ◌≡◌ {A = ℕ} 0 1 = cc in omega arith)
not_empty false why rest e = refl

module _ {X : Type 0} (blank : X) (m : Contents X) (ws : List (Worker X)) (l : Log X) (start : ℕ) (none : no_lay_out m ws start ≡ None) where
  pub some_cells : 0 < size m
  some_cells = let ne = eqb-false (size m) 0 (not_empty (eqb (size m) 0) _ _ none) in omega (arith, ne)

  -- the parts that the lay out leaves are those of a queue laid out
  pub begins : (m' : Contents X) (r r' : Receiver X) (ws' : List (Worker X)) (l' : Log X) →
      m' ≡ unless (no_lay_out m ws start) (cleared blank (size m) start) m → r' ≡ unless (no_lay_out m ws start) (laid_receiver start) r →
      ws' ≡ unless (no_lay_out m ws start) (map idled ws) ws → l' ≡ unless (no_lay_out m ws start) (emptied_log l) l →
      queue_of m' r' ws' l' free ≡ laid_out blank (size m) ws l start
  begins m' r r' ws' l' em er ew el =
      let pm = em ∙ ap (λ o. unless o (cleared blank (size m) start) m) none in
      let pr = er ∙ ap (λ o. unless o (laid_receiver start) r) none in
      let pw = ew ∙ ap (λ o. unless o (map idled ws) ws) none in
      let pl = el ∙ ap (λ o. unless o (emptied_log l) l) none in
      λ i. queue_of (pm i) (pr i) (pw i) (pl i) free

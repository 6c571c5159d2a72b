-- From a lay out to the life that it begins.
use Rattle.std.proofs.Common.{◌≡◌, ℕ, List, map, take, None, Option, Ok, Err, Result, MatchResult, IsErrAnd, sym, subst}
use Rattle.queue.specs.Faults.{reason_of}
use Rattle.stores.specs.Refusals.{Reason}
use Rattle.stores.specs.Model.{Contents, size, cleared}
use Rattle.protocol.specs.declared.record.Worker.{Worker}
use Rattle.protocol.specs.Records.{Receiver, Log}
use Rattle.protocol.specs.Rules.{unless, no_lay_out, laid_receiver, idled, emptied_log}
use Rattle.protocol.specs.State.{free}
use Rattle.protocol.specs.Lives.{Queue, queue_of}
use Rattle.protocol.specs.Views.{laid_out}
use Rattle.protocol.proofs.LifePromised.{life_promised}
use Rattle.lives.proofs.Beginning.{some_cells, begins}
use Rattle.schedules.specs.Rehearsals.{Ended, rehearsed, rehearsal_calls}
use Rattle.schedules.proofs.Rehearsing.{rehearsal_lives}
use Rattle.runs.specs.declared.fault.RunFault.{RunFault}
use Rattle.runs.specs.declared.rehearsing.Rehearsed.{Rehearsed}
use Rattle.runs.specs.Rehearsals.{RehearsedAs, Life}

module _ {X : Type 0} (blank : X) (m : Contents X) (ws : List (Worker X)) (l : Log X) (start : ℕ) (none : no_lay_out m ws start ≡ None) where
  pub rehearsal_life : (items : List X) (turns : List ℕ) → Life blank (laid_out blank (size m) ws l start) items turns
  rehearsal_life items turns =
      let q = laid_out blank (size m) ws l start in
      record {
        lives = rehearsal_lives blank q items turns;
        promised = λ i. life_promised blank (size m) ws l start (some_cells blank m ws l start none) (take i (rehearsal_calls blank q items turns));
      }

  pub from_laid : {F : Type 0} (reason : F → Reason) (items : List X) (turns : List ℕ) (m₁ : Contents X) (r r₁ : Receiver X) (ws₁ : List (Worker X)) (l₁ : Log X) (d : Rehearsed (RunFault F))
      (m' : Contents X) (ws' : List (Worker X)) (l' : Log X) →
      m₁ ≡ unless (no_lay_out m ws start) (cleared blank (size m) start) m → r₁ ≡ unless (no_lay_out m ws start) (laid_receiver start) r →
      ws₁ ≡ unless (no_lay_out m ws start) (map idled ws) ws → l₁ ≡ unless (no_lay_out m ws start) (emptied_log l) l →
      RehearsedAs reason (rehearsed blank (queue_of m₁ r₁ ws₁ l₁ free) items turns) d m' ws' l' →
      RehearsedAs reason (rehearsed blank (laid_out blank (size m) ws l start) items turns) d m' ws' l'
  from_laid reason items turns m₁ r r₁ ws₁ l₁ d m' ws' l' em er ew el h =
      subst (λ (q : Queue X). RehearsedAs reason (rehearsed blank q items turns) d m' ws' l') (begins blank m ws l start none m₁ r r₁ ws₁ l₁ em er ew el) h

-- a lay out whose fault is put under another name is accepted where that answer is
pub accepted : {V F D : Type 0} (reason : F → Reason) (r : Result V F) (r' : Result V D) (v : V) (P : F → D → Type 0) (why : Option Reason) →
    reason_of reason r ≡ why → MatchResult r (λ x. r' ≡ Ok x) (λ f. IsErrAnd r' (P f)) → r' ≡ Ok v → why ≡ None
accepted reason (Ok x) r' v P why said cases is = sym said
accepted reason (Err f) r' v P why said cases is = absurd (subst (λ o. IsErrAnd o (P f)) is cases)

-- it is left where its parts lie
pub left_there : {X F S : Type 0} (reason : F → Reason) (model : S → Contents X) (e : Ended X) (d : Rehearsed (RunFault F))
    (s s' : S) (ws ws' : List (Worker X)) (l l' : Log X) → RehearsedAs reason e d (model s) ws l → s ≡ s' → ws ≡ ws' → l ≡ l' →
    RehearsedAs reason e d (model s') ws' l'
left_there {X} {F} {S} reason model e d s s' ws ws' l l' h es ew el =
    subst (λ (x : S). RehearsedAs reason e d (model x) ws' l') es
    (subst (λ (x : List (Worker X)). RehearsedAs reason e d (model s) x l') ew (subst (λ (x : Log X). RehearsedAs reason e d (model s) ws x) el h))

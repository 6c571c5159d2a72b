-- Runs one after another, and their accounts.
use Rattle.std.proofs.Common.{◌≡◌, List, [], ◌∷◌, ◌++◌, refl}
use Rattle.protocol.specs.State.{Sizes, State}
use Rattle.protocol.specs.Events.{Event}
use Rattle.protocol.specs.Steps.{Run, here, then}
use Rattle.protocol.specs.Account.{Account, note, noted}

module _ {X : Type 0} {z : Sizes} where
  pub run_join : {s t u : State X} {es fs : List (Event X)} → Run z s es t → Run z t fs u → Run z s (es ++ fs) u
  run_join here r = r
  run_join (then st run) r = then st (run_join run r)

  -- a run comes through a state at every point
  pub run_split : (es : List (Event X)) {fs : List (Event X)} {s u : State X} → Run z s (es ++ fs) u → (t : State X) × Run z s es t × Run z t fs u
  run_split [] {s = s} run = (s, here, run)
  run_split (e ∷ es) (then st run) = let q = run_split es run in (q.0, then st q.1, q.2)

pub noted_join : {X : Type 0} (a : Account X) (es fs : List (Event X)) → noted a (es ++ fs) ≡ noted (noted a es) fs
noted_join a [] fs = refl
noted_join a (e ∷ es) fs = noted_join (note a e) es fs

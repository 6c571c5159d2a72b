-- The tail never passes the highest rank, and the end mark is -1 or set.
use Rattle.std.proofs.Common.{◌≡◌, ℕ, ◌+◌, ◌^◌, ◌≤◌, ◌⊎◌, List, ℤ, pos, negsuc, sym, refl, subst, inl, inr, arith}
use Rattle.protocol.specs.Pending.{pending}
use Rattle.protocol.specs.State.{Sizes, State}
use Rattle.protocol.specs.Events.{Event}
use Rattle.protocol.specs.Steps.{Step, is_not_made, is_refused, submits, withdraws, closes, finds_used, finds_free, skips, fills, announces, idle_finds_over, claims, becomes_sure, doubts, marks, gives_up, waits, passes, passed_finds_over, moves_on, copies, delivers, Run, here, then, closed_end}

pub record Bounded {X : Type 0} (s : State X) : Type 0 where
  pub tail_is : s.tail + pending s.phase ≤ 2 ^ 40
  pub end_is : (s.end ≡ negsuc 0) ⊎ ((e : ℕ) × (s.end ≡ pos e))

closed_is : (end : ℤ) (tail : ℕ) → (end ≡ negsuc 0) ⊎ ((e : ℕ) × (end ≡ pos e)) →
    (closed_end end tail ≡ negsuc 0) ⊎ ((e : ℕ) × (closed_end end tail ≡ pos e))
closed_is end tail (inl o) = inr (tail, subst (λ z. closed_end z tail ≡ pos tail) (sym o) refl)
closed_is end tail (inr (e, c)) = inr (e, subst (λ z. closed_end z tail ≡ pos e) (sym c) refl)

module _ {X : Type 0} {z : Sizes} where
  pub bounds_kept : {s : State X} (e : Event X) (s' : State X) → Step z s e s' → Bounded s → Bounded s'
  bounds_kept e s' (is_not_made c) b = b
  bounds_kept e s' (is_refused c number place) b = b
  bounds_kept e s' (submits x p _ h) b = record { tail_is = (let t = b.tail_is in omega (arith, t)); end_is = b.end_is }
  bounds_kept e s' (withdraws p) b = record { tail_is = (let t = b.tail_is in omega (arith, t)); end_is = b.end_is }
  bounds_kept {s} e s' (closes p h) b = record { tail_is = b.tail_is; end_is = closed_is s.end s.tail b.end_is }
  bounds_kept e s' (finds_used x p h f low u) b = record { tail_is = omega (arith, low); end_is = b.end_is }
  bounds_kept e s' (finds_free x p h f low u) b = record { tail_is = omega (arith, low); end_is = b.end_is }
  bounds_kept {s} e s' (skips x p h f) b =
      let t : s.tail + 1 ≤ 2 ^ 40 = subst (λ q. s.tail + pending q ≤ 2 ^ 40) f b.tail_is in
      record { tail_is = omega (arith, t); end_is = b.end_is }
  bounds_kept {s} e s' (fills x p h f) b =
      let t : s.tail + 1 ≤ 2 ^ 40 = subst (λ q. s.tail + pending q ≤ 2 ^ 40) f b.tail_is in
      record { tail_is = t; end_is = b.end_is }
  bounds_kept {s} e s' (announces x p h f) b =
      let t : s.tail + 1 ≤ 2 ^ 40 = subst (λ q. s.tail + pending q ≤ 2 ^ 40) f b.tail_is in
      record { tail_is = omega (arith, t); end_is = b.end_is }
  bounds_kept e s' (idle_finds_over k l f _) b = b
  bounds_kept e s' (claims k l f _ _) b = record { tail_is = b.tail_is; end_is = b.end_is }
  bounds_kept e s' (becomes_sure k l f t) b = record { tail_is = b.tail_is; end_is = b.end_is }
  bounds_kept e s' (doubts k l f t) b = record { tail_is = b.tail_is; end_is = b.end_is }
  bounds_kept e s' (marks k l f t) b = record { tail_is = b.tail_is; end_is = b.end_is }
  bounds_kept e s' (gives_up k l f t u) b = record { tail_is = b.tail_is; end_is = b.end_is }
  bounds_kept e s' (waits k l f t _) b = record { tail_is = b.tail_is; end_is = b.end_is }
  bounds_kept e s' (passes k l f t) b = record { tail_is = b.tail_is; end_is = b.end_is }
  bounds_kept e s' (passed_finds_over k l f _) b = record { tail_is = b.tail_is; end_is = b.end_is }
  bounds_kept e s' (moves_on k l f _ _) b = record { tail_is = b.tail_is; end_is = b.end_is }
  bounds_kept e s' (copies k l f) b = record { tail_is = b.tail_is; end_is = b.end_is }
  bounds_kept e s' (delivers k l f _) b = record { tail_is = b.tail_is; end_is = b.end_is }

  pub always_bounded : {s : State X} (es : List (Event X)) {t : State X} → Run z s es t → Bounded s → Bounded t
  always_bounded es here b = b
  always_bounded es (then {s' = s'} {e = e} {es = fs} st run) b = always_bounded fs run (bounds_kept e s' st b)

-- The invariant from an accepted lay out on, after every run; and what it says of the account.
use Rattle.std.proofs.Common.{◌≡◌, ℕ, ◌%◌, ◌<◌, ◌≤◌, ◌⊎◌, List, [], Some, None, sym, refl, ap, ◌∙◌, subst, inl, inr, arith}
use Rattle.protocol.specs.Tests.{used}
use Rattle.protocol.specs.State.{Sizes, State}
use Rattle.protocol.specs.Events.{Event}
use Rattle.protocol.specs.Steps.{Run, here, then, LaidOut}
use Rattle.protocol.specs.Account.{Account, In, times, times_announced, undelivered, blank_account, cutting, note, noted}
use Rattle.protocol.specs.Promise.{OneOf, Held, NothingLostOrDoubled}
use Rattle.protocol.proofs.Tables.{times_none, times_in, neg_pos, none_some}
use Rattle.protocol.proofs.Counts.{used_none, announced_none}
use Rattle.protocol.proofs.Invariant.{WorkerFits, ReceiverFits, Invariant}
use Rattle.protocol.proofs.Workers.{worker_holds, worker_idle}
use Rattle.protocol.proofs.Kept.{keep}

module _ {X : Type 0} (z : Sizes) (start : ℕ) where
  pub at_start : (s : State X) → LaidOut z start s → Invariant z start s blank_account
  unfolding undelivered
  at_start s l =
      let same_tail : s.tail ≡ start = l.tail_is in
      let same_head : s.head ≡ start = l.head_is in
      record {
        ring = record {
          some_cells = l.some_cells;
          cell_is = λ i r h. absurd (neg_pos 0 r (sym (l.ranks i) ∙ h));
          gap_below = λ i g h. absurd (neg_pos 0 g (sym (l.gaps i) ∙ h));
          settled = λ r lo hi. absurd (let no : start ≤ r = lo in let ne : r < s.tail = hi in omega arith);
          kept = λ r x m. absurd m;
          announced_once = λ r. let e : times_announced r [] ≡ 0 = announced_none {X = X} r [] (λ x m. m) in omega arith;
          announced_below = λ r x m. absurd m;
          skipped_below = λ r m. absurd m;
          announced_not_skipped = λ r x m k. m;
          skipped_gap = λ r m. absurd m;
          log_announced = λ e m. absurd (subst (In e) l.log_is m);
          log_below = λ r h. times_none r s.log l.log_is;
          count = used_none s.cells (λ i. ap used (l.ranks i)) z.cells;
        };
        ranks = record {
          low = omega arith;
          claimed_between = λ r m. absurd m;
          held_claimed = λ k r e. none_some r e;
          held_in_table = λ k r e. absurd (none_some r e);
          held_by_one = λ j k r e f. absurd (none_some r e);
          held_not_else = λ k r e. absurd (none_some r e);
          let_go_not_logged = λ r m. absurd m;
          let_go_claimed = λ r m. m;
          logged_claimed = λ e m. absurd (subst (In e) l.log_is m);
          fresh = λ r h. times_none r s.log l.log_is;
          fate = λ r m. absurd m;
          let_go_why = λ r m. absurd m;
        };
        workers = λ k. subst (λ p. WorkerFits z.cells s.cells [] p (s.workers k) None) (sym (l.idle k)) refl;
        receiver = record {
          fits = subst (λ p. ReceiverFits (s.cells (s.tail % z.cells)) s.hand p) (sym l.phase_is) tt;
          last_is = λ x e. absurd (none_some x (sym l.hand_is ∙ e));
          end_at = λ e h. absurd (neg_pos 0 e (sym l.end_is ∙ h));
        };
        cut_is = sym (ap (λ v. cutting v None) l.end_is);
        log_is = l.log_is;
      }

  pub always : (s : State X) (es : List (Event X)) (t : State X) → Run z s es t → (a : Account X) → Invariant z start s a → Invariant z start t (noted a es)
  always s es t here a i = i
  always s es t (then {s' = s'} {e = e} {es = fs} st run) a i = always s' fs t run (note a e) (keep z start s a e s' st i)

module _ {X : Type 0} {z : Sizes} {start : ℕ} {s : State X} {a : Account X} (i : Invariant z start s a) where
  -- a logged rank is announced, and so logged once
  once : (r : ℕ) → times r s.log ≤ 1
  once r = elim (times_in r s.log) [
    | inl none ↦ omega arith
    | inr (e, m, q) ↦ subst (λ v. times v s.log ≤ 1) q (elim (i.ring.kept e.rank e.item (i.ring.log_announced e m)) [ inl h ↦ let n : times e.rank s.log ≡ 0 = h.2 in omega arith | inr h ↦ let n : times e.rank s.log ≡ 1 = h.2 in omega arith ])
  ]

  held_not_logged : (k r : ℕ) → a.held k ≡ Some r → times r s.log ≡ 1 → ⊥
  held_not_logged k r e one = let none : times r s.log ≡ 0 = (i.ranks.held_not_else k r e).0 in omega arith

  let_go_not_logged : (r : ℕ) → In r a.let_go → times r s.log ≡ 1 → ⊥
  let_go_not_logged r m one = let none : times r s.log ≡ 0 = i.ranks.let_go_not_logged r m in omega arith

  one_of : (r : ℕ) → Held a r ⊎ ((times r s.log ≡ 1) ⊎ In r a.let_go) → OneOf (Held a r) (times r s.log ≡ 1) (In r a.let_go)
  one_of r (inl (k, e)) = inl ((k, e), held_not_logged k r e, (i.ranks.held_not_else k r e).1)
  one_of r (inr (inl one)) = inr (inl ((λ h. held_not_logged h.0 r h.1 one), one, λ m. let_go_not_logged r m one))
  one_of r (inr (inr m)) = inr (inr ((λ h. (i.ranks.held_not_else h.0 r h.1).1 m), let_go_not_logged r m, m))

  pub nothing_lost_or_doubled : NothingLostOrDoubled z s a
  nothing_lost_or_doubled = record {
    announced_once = i.ring.announced_once;
    kept = i.ring.kept;
    used_cell = λ j r b h. let q = i.ring.cell_is j r h in (q.0, q.1);
    used_count = i.ring.count ∙ ap (undelivered a.announced) i.log_is;
    log_entry = i.ring.log_announced;
    logged_once = once;
    log_is = i.log_is;
    holder = λ k r e. worker_holds z.cells s.cells a.skipped (s.workers k).phase (s.workers k) (a.held k) r (i.workers k) e;
    others = λ k e. worker_idle z.cells s.cells a.skipped (s.workers k).phase (s.workers k) (a.held k) (i.workers k) e;
    held_in_table = i.ranks.held_in_table;
    held_by_one = i.ranks.held_by_one;
    claimed = λ r m. one_of r (i.ranks.fate r m);
    held_claimed = i.ranks.held_claimed;
    logged_claimed = i.ranks.logged_claimed;
    let_go_claimed = i.ranks.let_go_claimed;
    let_go_why = i.ranks.let_go_why;
  }

-- Each step keeps the invariant.
use Rattle.std.proofs.Common.{◌≡◌, ℕ, ◌+◌, ◌%◌, ◌<◌, ◌≤◌, Bool, true, false, cond, eqb, ◌⊎◌, [], ◌∷◌, ◌++◌, ℤ, pos, negsuc, Some, None, Option, sym, refl, ap, ◌∙◌, subst, inl, inr, arith}
use Rattle.stores.specs.Model.{cell_item}
use Rattle.protocol.specs.declared.record.ReceiverPhase.TheVariants.{Found, Filled}
use Rattle.protocol.specs.declared.record.WorkerPhase.{WorkerPhase}
use Rattle.protocol.specs.declared.record.WorkerPhase.TheVariants.{Idle, Seeking, Doubting, Marked, Passed, Sure, Copied}
use Rattle.protocol.specs.declared.record.Worker.{Worker}
use Rattle.protocol.specs.declared.answer.ReceiverAnswer.TheVariants.{Skipped, Announced}
use Rattle.protocol.specs.declared.answer.WorkerAnswer.TheVariants.{Over, Claimed, MovedOn, Delivered}
use Rattle.protocol.specs.Tests.{used}
use Rattle.protocol.specs.State.{Permit, free, full, spent, Sizes, State, put}
use Rattle.protocol.specs.Events.{Event, received, worked, closed}
use Rattle.protocol.specs.Steps.{Step, is_not_made, is_refused, submits, withdraws, closes, finds_used, finds_free, skips, fills, announces, idle_finds_over, claims, becomes_sure, doubts, marks, gives_up, waits, passes, passed_finds_over, moves_on, copies, delivers, closed_end, own_cell, own_rank, rank_stands, with_worker, in_phase, after_close, after_skip, after_fill, after_announce, after_turn, after_next_rank, entry_of, after_deliver}
use Rattle.protocol.specs.Account.{Account, In, times, announcing, letting_go, CutOff, cutting, note}
use Rattle.protocol.proofs.Tables.{put_same, put_id, put_put, put_both, some_eq, none_some, equals_yes, equals_no, past_yes, covers_yes, pos_eq, neg_pos}
use Rattle.protocol.proofs.Invariant.{Ring, Ranks, WorkerFits, Workers, ReceiverFits, Invariant}
use Rattle.protocol.proofs.Ring.{skip_spares, skip_grows, ring_skip, itemed_rank, fill_spares, fill_grows, ring_fill, announce_spares, announce_grows, ring_announce, deliver_spares, deliver_grows, freed_item, freed_unused, ring_deliver}
use Rattle.protocol.proofs.Ranks.{ranks_more, ranks_claim, ranks_let_go, ranks_log}
use Rattle.protocol.proofs.Workers.{worker_stays, workers_stay, workers_turn, workers_both, receiver_stays}

free_spent : (p : Permit) → p ≡ free → p ≡ spent → ⊥
free_spent p e f = let q : ◌≡◌ {A = ℕ} 0 1 = cc in omega arith

full_spent : (p : Permit) → p ≡ full → p ≡ spent → ⊥
full_spent p e f = let q : ◌≡◌ {A = ℕ} 0 1 = cc in omega arith

-- a close that finds no mark set leaves the tail as the mark, or none
closed_at : (v : ℤ) (t e : ℕ) → ((d : ℕ) → v ≡ pos d → ⊥) → closed_end v t ≡ pos e → e ≡ t
closed_at (pos d) t e f h = absurd (f d refl)
closed_at (negsuc m) t e f h = go (eqb m 0) h
  where
    go : (b : Bool) → cond b (pos t) (negsuc m) ≡ pos e → e ≡ t
    go true q = pos_eq e t (sym q)
    go false q = absurd (neg_pos m e q)

-- the account cuts off what the mark says, after a close too
closed_cut : (v : ℤ) (t : ℕ) (c : Option ℕ) → c ≡ cutting v None → cutting (closed_end v t) c ≡ cutting (closed_end v t) None
closed_cut (pos d) t c q = refl
closed_cut (negsuc m) t c q = ap (cutting (closed_end (negsuc m) t)) q

cut_still : (v : ℤ) (t : ℕ) (c : Option ℕ) → c ≡ cutting v None → (r : ℕ) → CutOff c r → CutOff (cutting (closed_end v t) c) r
cut_still (pos d) t c q r (e, h, l) = (e, sym q ∙ h, l)
cut_still (negsuc m) t c q r (e, h, l) = absurd (none_some e (sym q ∙ h))

module _ {X : Type 0} {z : Sizes} {start : ℕ} {s : State X} {a : Account X} (i : Invariant z start s a) where
  -- with a permit at hand the end mark is not set
  free_open : s.permit ≡ free → (e : ℕ) → s.end ≡ pos e → ⊥
  free_open f e h = free_spent s.permit f (i.receiver.end_at e h).1

  full_open : s.permit ≡ full → (e : ℕ) → s.end ≡ pos e → ⊥
  full_open f e h = full_spent s.permit f (i.receiver.end_at e h).1

  keep_skip : s.permit ≡ full → Invariant z start (after_skip z.cells s) (note a (received (Skipped s.tail)))
  keep_skip f = record {
    ring = ring_skip i.ring;
    ranks = ranks_more i.ranks (s.tail ∷ a.skipped) a.cut_from (λ r m. inr m) (λ r m. m);
    workers = workers_stay z.cells s.cells (after_skip z.cells s).cells a.skipped (s.tail ∷ a.skipped) (skip_grows i.ring) (λ r m. inr m) (skip_spares i.ring) s.workers a.held i.workers;
    receiver = record { fits = tt; last_is = i.receiver.last_is; end_at = λ d q. absurd (full_open f d q) };
    cut_is = i.cut_is;
    log_is = i.log_is;
  }

  keep_fill : (x : X) → s.hand ≡ Some x → s.phase ≡ Found → Invariant z start (after_fill z.cells s x) a
  keep_fill x h p =
      let u : used (own_cell z.cells s s.tail).rank ≡ false = subst (ReceiverFits (own_cell z.cells s s.tail) s.hand) p i.receiver.fits in
      record {
        ring = ring_fill i.ring x u;
        ranks = i.ranks;
        workers = workers_stay z.cells s.cells (after_fill z.cells s x).cells a.skipped a.skipped (fill_grows i.ring x u) (λ r m. m) (fill_spares i.ring x u) s.workers a.held i.workers;
        receiver = record {
          fits = (ap used (itemed_rank i.ring x u (s.tail % z.cells)) ∙ u, h ∙ ap Some (sym (ap (λ c. c.item) (put_same s.cells (s.tail % z.cells) (cell_item x (own_cell z.cells s s.tail))))));
          last_is = i.receiver.last_is;
          end_at = i.receiver.end_at;
        };
        cut_is = i.cut_is;
        log_is = i.log_is;
      }

  keep_announce : (x : X) → s.permit ≡ full → s.hand ≡ Some x → s.phase ≡ Filled → Invariant z start (after_announce z.cells s) (note a (received (Announced s.tail)))
  keep_announce x f h p =
      let u = subst (ReceiverFits (own_cell z.cells s s.tail) s.hand) p i.receiver.fits in
      let e : (own_cell z.cells s s.tail).item ≡ x = some_eq (own_cell z.cells s s.tail).item x (sym u.1 ∙ h) in
      record {
        ring = subst (λ l. Ring z.cells start (after_announce z.cells s).cells (s.tail + 1) (announcing s.tail l a.announced) a.skipped s.log) (sym (i.receiver.last_is x h)) (ring_announce i.ring x u.0 e);
        ranks = i.ranks;
        workers = workers_stay z.cells s.cells (after_announce z.cells s).cells a.skipped a.skipped (announce_grows i.ring x u.0 e) (λ r m. m) (announce_spares i.ring x u.0 e) s.workers a.held i.workers;
        receiver = record { fits = tt; last_is = λ y q. absurd (none_some y q); end_at = λ d q. absurd (full_open f d q) };
        cut_is = i.cut_is;
        log_is = i.log_is;
      }

  keep_close : s.permit ≡ free → Invariant z start (after_close s) (note a (closed (closed_end s.end s.tail)))
  keep_close f = record {
    ring = i.ring;
    ranks = ranks_more i.ranks a.skipped (cutting (closed_end s.end s.tail) a.cut_from) (λ r m. m) (cut_still s.end s.tail a.cut_from i.cut_is);
    workers = i.workers;
    receiver = record {
      fits = i.receiver.fits;
      last_is = i.receiver.last_is;
      end_at = λ e h. (closed_at s.end s.tail e (free_open f) h, refl);
    };
    cut_is = closed_cut s.end s.tail a.cut_from i.cut_is;
    log_is = i.log_is;
  }

  module _ (k : ℕ) where
    pub worker_fits : (p : WorkerPhase) → (s.workers k).phase ≡ p → WorkerFits z.cells s.cells a.skipped p (s.workers k) (a.held k)
    worker_fits p e = subst (λ q. WorkerFits z.cells s.cells a.skipped q (s.workers k) (a.held k)) e (i.workers k)

    -- one record changes, and what its worker holds stays
    keep_work : (w : Worker X) → WorkerFits z.cells s.cells a.skipped w.phase w (a.held k) → Invariant z start (with_worker s k w) a
    keep_work w m = record {
      ring = i.ring;
      ranks = i.ranks;
      workers = workers_turn z.cells s.cells a.skipped s.workers a.held i.workers k w m;
      receiver = i.receiver;
      cut_is = i.cut_is;
      log_is = i.log_is;
    }

    keep_over : (s.workers k).phase ≡ Idle → Invariant z start s (note a (worked k (Over s.end)))
    keep_over e =
        let none_is : a.held k ≡ None = worker_fits Idle e in
        let same : put a.held k None ≡ a.held = put_id a.held k None none_is in
        record {
          ring = i.ring;
          ranks = subst (λ o. Ranks z.workers start s.head (put a.held k None) a.claimed s.log (letting_go o a.let_go) a.skipped a.cut_from) (sym none_is)
              (subst (λ h. Ranks z.workers start s.head h a.claimed s.log a.let_go a.skipped a.cut_from) (sym same) i.ranks);
          workers = subst (Workers z.cells s.cells a.skipped s.workers) (sym same) i.workers;
          receiver = i.receiver;
          cut_is = i.cut_is;
          log_is = i.log_is;
        }

    keep_claim : k < z.workers → (s.workers k).phase ≡ Idle → Invariant z start (after_next_rank s k) (note a (worked k (Claimed s.head)))
    keep_claim l e = record {
      ring = i.ring;
      ranks = ranks_claim i.ranks k l (worker_fits Idle e);
      workers = workers_both z.cells s.cells a.skipped s.workers a.held i.workers k (record { phase = Seeking; rank = s.head; copy = (s.workers k).copy }) (Some s.head) refl;
      receiver = i.receiver;
      cut_is = i.cut_is;
      log_is = i.log_is;
    }

    released : (r : ℕ) → a.held k ≡ Some r → In r a.skipped ⊎ CutOff a.cut_from r → Ranks z.workers start s.head (put a.held k None) a.claimed s.log (letting_go (a.held k) a.let_go) a.skipped a.cut_from
    released r has why = subst (λ o. Ranks z.workers start s.head (put a.held k None) a.claimed s.log (letting_go o a.let_go) a.skipped a.cut_from) (sym has) (ranks_let_go i.ranks k r has why)

    keep_let_go : (r : ℕ) → a.held k ≡ Some r → In r a.skipped ⊎ CutOff a.cut_from r → Invariant z start (after_turn s k Idle) (note a (worked k (Over s.end)))
    keep_let_go r has why = record {
      ring = i.ring;
      ranks = released r has why;
      workers = workers_both z.cells s.cells a.skipped s.workers a.held i.workers k (in_phase (s.workers k) Idle) None refl;
      receiver = i.receiver;
      cut_is = i.cut_is;
      log_is = i.log_is;
    }

    keep_move : k < z.workers → (s.workers k).phase ≡ Passed → Invariant z start (after_next_rank s k) (note a (worked k (MovedOn s.head)))
    keep_move l e =
        let m = worker_fits Passed e in
        record {
          ring = i.ring;
          ranks = ranks_claim (released (own_rank s k) m.0 (inl m.1)) k l (put_same a.held k None);
          workers = subst (Workers z.cells s.cells a.skipped (after_next_rank s k).workers) (sym (put_put a.held k None (Some s.head)))
              (workers_both z.cells s.cells a.skipped s.workers a.held i.workers k (record { phase = Seeking; rank = s.head; copy = (s.workers k).copy }) (Some s.head) refl);
          receiver = i.receiver;
          cut_is = i.cut_is;
          log_is = i.log_is;
        }

    keep_deliver : (s.workers k).phase ≡ Copied → Invariant z start (after_deliver z.cells s k) (note a (worked k (Delivered (own_rank s k) (s.workers k).copy)))
    keep_deliver e =
        let m = worker_fits Copied e in
        record {
          ring = ring_deliver i.ring (own_rank s k) k (s.workers k).copy m.1 m.2;
          ranks = ranks_log i.ranks k (own_rank s k) m.0 (s.workers k).copy;
          workers = put_both (λ w h. WorkerFits z.cells (after_deliver z.cells s k).cells a.skipped w.phase w h) s.workers a.held k (in_phase (s.workers k) Idle) None refl
              (λ j q. worker_stays z.cells s.cells (after_deliver z.cells s k).cells a.skipped a.skipped (deliver_grows i.ring (own_rank s k) k (s.workers k).copy m.1 m.2) (λ r v. v) (s.workers j).phase (s.workers j) (a.held j)
              (λ has. deliver_spares i.ring (own_rank s k) k (s.workers k).copy m.1 m.2 (own_rank s j) (λ same. q (i.ranks.held_by_one j k (own_rank s k) (has ∙ ap Some same) m.0))) (i.workers j));
          receiver = record {
            fits = receiver_stays (own_cell z.cells s s.tail) ((after_deliver z.cells s k).cells (s.tail % z.cells)) s.hand s.phase
                (freed_unused i.ring (own_rank s k) k (s.workers k).copy m.1 m.2 (s.tail % z.cells))
                (freed_item i.ring (own_rank s k) k (s.workers k).copy m.1 m.2 (s.tail % z.cells)) i.receiver.fits;
            last_is = i.receiver.last_is;
            end_at = i.receiver.end_at;
          };
          cut_is = i.cut_is;
          log_is = ap (λ l. l ++ (entry_of s k ∷ [])) i.log_is;
        }

    -- a marked worker whose rank does not stand holds a skipped one
    skipped_if_marked : (s.workers k).phase ≡ Marked → rank_stands z.cells s k ≡ false → In (own_rank s k) a.skipped
    skipped_if_marked e f =
        let m = worker_fits Marked e in
        let below : m.1.0 < s.tail = i.ring.gap_below (own_rank s k % z.cells) m.1.0 m.1.1 in
        let reached : own_rank s k ≤ m.1.0 = m.1.2 in
        let lo : start ≤ own_rank s k = (i.ranks.claimed_between (own_rank s k) (i.ranks.held_claimed k (own_rank s k) m.0)).0 in
        elim (i.ring.settled (own_rank s k) lo (omega arith)) [
          | inr q ↦ q
          | inl q ↦ elim (i.ring.kept (own_rank s k) q.0 q.1) [
            | inl v ↦ absurd (equals_no (own_cell z.cells s (own_rank s k)).rank (own_rank s k) f v.0)
            | inr v ↦ absurd (let once : times (own_rank s k) s.log ≡ 1 = v.2 in let none : times (own_rank s k) s.log ≡ 0 = (i.ranks.held_not_else k (own_rank s k) m.0).0 in omega arith)
          ]
        ]

    holds_if_seeking : ((s.workers k).phase ≡ Seeking) ⊎ ((s.workers k).phase ≡ Marked) → a.held k ≡ Some (own_rank s k)
    holds_if_seeking (inl e) = worker_fits Seeking e
    holds_if_seeking (inr e) = (worker_fits Marked e).0

pub keep : {X : Type 0} (z : Sizes) (start : ℕ) (s : State X) (a : Account X) (e : Event X) (s' : State X) → Step z s e s' → Invariant z start s a → Invariant z start s' (note a e)
keep z start s a e s' (is_not_made c) i = i
keep z start s a e s' (is_refused c number place) i = i
keep z start s a e s' (submits x p _ h) i = record { ring = i.ring; ranks = i.ranks; workers = i.workers; receiver = record { fits = tt; last_is = λ y q. q; end_at = λ d q. absurd (free_open i p d q) }; cut_is = i.cut_is; log_is = i.log_is }
keep z start s a e s' (withdraws p) i = record { ring = i.ring; ranks = i.ranks; workers = i.workers; receiver = record { fits = tt; last_is = λ y q. absurd (none_some y q); end_at = λ d q. absurd (full_open i p d q) }; cut_is = i.cut_is; log_is = i.log_is }
keep z start s a e s' (closes p h) i = keep_close i p
keep z start s a e s' (finds_used x p h f _ u) i = record { ring = i.ring; ranks = i.ranks; workers = i.workers; receiver = record { fits = tt; last_is = i.receiver.last_is; end_at = i.receiver.end_at }; cut_is = i.cut_is; log_is = i.log_is }
keep z start s a e s' (finds_free x p h f _ u) i = record { ring = i.ring; ranks = i.ranks; workers = i.workers; receiver = record { fits = u; last_is = i.receiver.last_is; end_at = i.receiver.end_at }; cut_is = i.cut_is; log_is = i.log_is }
keep z start s a e s' (skips x p h f) i = keep_skip i p
keep z start s a e s' (fills x p h f) i = keep_fill i x h f
keep z start s a e s' (announces x p h f) i = keep_announce i x p h f
keep z start s a e s' (idle_finds_over k l f _) i = keep_over i k f
keep z start s a e s' (claims k l f _ _) i = keep_claim i k l f
keep z start s a e s' (becomes_sure k l f t) i = keep_work i k (in_phase (s.workers k) Sure) (holds_if_seeking i k f, equals_yes (own_cell z.cells s (own_rank s k)).rank (own_rank s k) t)
keep z start s a e s' (doubts k l f t) i = keep_work i k (in_phase (s.workers k) Doubting) (worker_fits i k Seeking f)
keep z start s a e s' (marks k l f t) i = keep_work i k (in_phase (s.workers k) Marked) (worker_fits i k Doubting f, covers_yes (own_cell z.cells s (own_rank s k)).gap (own_rank s k) t)
keep z start s a e s' (gives_up k l f t u) i = let q = past_yes s.end (own_rank s k) u in keep_let_go i k (own_rank s k) (worker_fits i k Doubting f) (inr (q.0, i.cut_is ∙ ap (λ v. cutting v None) q.1, q.2))
keep z start s a e s' (waits k l f t _) i = keep_work i k (in_phase (s.workers k) Seeking) (worker_fits i k Doubting f)
keep z start s a e s' (passes k l f t) i = keep_work i k (in_phase (s.workers k) Passed) ((worker_fits i k Marked f).0, skipped_if_marked i k f t)
keep z start s a e s' (passed_finds_over k l f _) i = let m = worker_fits i k Passed f in keep_let_go i k (own_rank s k) m.0 (inl m.1)
keep z start s a e s' (moves_on k l f _ _) i = keep_move i k l f
keep z start s a e s' (copies k l f) i = let m = worker_fits i k Sure f in keep_work i k (record { phase = Copied; rank = own_rank s k; copy = (own_cell z.cells s (own_rank s k)).item }) (m.0, m.1, refl)
keep z start s a e s' (delivers k l f _) i = keep_deliver i k f

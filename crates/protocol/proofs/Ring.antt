-- The ring over the four writes to a cell.
use Rattle.std.proofs.Common.{◌≡◌, ℕ, suc, ◌+◌, ◌%◌, ◌<◌, ◌≤◌, false, ◌≢◌, ◌⊎◌, List, [], ◌∷◌, ◌++◌, pos, negsuc, sym, refl, ap, ◌∙◌, subst, ap₂, inl, inr, mod-lt, arith}
use native.Mathlib.Decide.{ℕ_discrete}
use Rattle.stores.specs.declared.cell.Cell.{Cell}
use Rattle.stores.specs.Model.{cell_item, cell_rank, cell_gap}
use Rattle.protocol.specs.declared.record.Entry.{Entry}
use Rattle.protocol.specs.Tests.{used}
use Rattle.protocol.specs.State.{put}
use Rattle.protocol.specs.Account.{Announcement, In, one_if, times, times_announced, undelivered}
use Rattle.protocol.specs.Promise.{announcement, entry, InCell, InLog, used_cells}
use Rattle.protocol.proofs.Tables.{put_same, put_other, put_at, put_keeps, times_same, times_other, in_left, in_last, in_one_more, pos_eq, neg_pos, unused_no, below_next}
use Rattle.protocol.proofs.Counts.{used_alike, used_change, announced_same, announced_other, announced_none, announced_some, undelivered_next, undelivered_less}
use Rattle.protocol.proofs.Invariant.{AtLeast, Ring, Spares, GapsGrow}

module _ {X : Type 0} {n start : ℕ} {cells : ℕ → Cell X} {t : ℕ} {announced : List (Announcement X)} {skipped : List ℕ} {log : List (Entry X)} (R : Ring n start cells t announced skipped log) where
  -- the receiver marks the cell of its tail
  abbrev gapped : ℕ → Cell X
  gapped = put cells (t % n) (cell_gap (pos t) (cells (t % n)))

  gapped_rank : (i : ℕ) → (gapped i).rank ≡ (cells i).rank
  gapped_rank = put_keeps (λ c. c.rank) cells (t % n) (cell_gap (pos t) (cells (t % n))) refl

  gapped_item : (i : ℕ) → (gapped i).item ≡ (cells i).item
  gapped_item = put_keeps (λ c. c.item) cells (t % n) (cell_gap (pos t) (cells (t % n))) refl

  pub skip_spares : (r : ℕ) → Spares cells gapped r
  skip_spares r i e = (gapped_rank i ∙ e, gapped_item i)

  pub skip_grows : GapsGrow cells gapped
  skip_grows i r (g, e, h) = put_at (λ c. AtLeast c.gap r) cells (t % n) (cell_gap (pos t) (cells (t % n))) i (λ q. (t, refl, let b : g < t = R.gap_below i g e in omega arith)) (λ q. (g, e, h))

  pub ring_skip : Ring n start gapped (t + 1) announced (t ∷ skipped) log
  ring_skip = record {
    some_cells = R.some_cells;
    cell_is = λ i r h. let q = R.cell_is i r (sym (gapped_rank i) ∙ h) in (q.0, subst (λ v. In (announcement r v) announced) (sym (gapped_item i)) q.1, q.2);
    gap_below = λ i g. put_at (λ c. c.gap ≡ pos g → g < t + 1) cells (t % n) (cell_gap (pos t) (cells (t % n))) i (λ q h. let e : t ≡ g = pos_eq t g h in omega arith) (λ q h. let b : g < t = R.gap_below i g h in omega arith);
    settled = λ r lo hi. elim (below_next r t hi) [ inl b ↦ elim (R.settled r lo b) [ inl m ↦ inl m | inr m ↦ inr (inr m) ] | inr e ↦ inr (inl e) ];
    kept = λ r x m. elim (R.kept r x m) [ inl q ↦ inl (gapped_rank (r % n) ∙ q.0, gapped_item (r % n) ∙ q.1, q.2) | inr q ↦ inr ((λ i h. q.0 i (sym (gapped_rank i) ∙ h)), q.1, q.2) ];
    announced_once = R.announced_once;
    announced_below = λ r x m. let b : r < t = R.announced_below r x m in omega arith;
    skipped_below = λ r m. elim m [ inl e ↦ omega arith | inr m ↦ let b : r < t = R.skipped_below r m in omega arith ];
    announced_not_skipped = λ r x m k. elim k [ inl e ↦ let b : r < t = R.announced_below r x m in omega arith | inr k ↦ R.announced_not_skipped r x m k ];
    skipped_gap = λ r m. elim m [ inl e ↦ put_at (λ c. AtLeast c.gap r) cells (t % n) (cell_gap (pos t) (cells (t % n))) (r % n) (λ q. (t, refl, omega arith)) (λ q. absurd (q (ap (λ v. v % n) e))) | inr m ↦ skip_grows (r % n) r (R.skipped_gap r m) ];
    log_announced = R.log_announced;
    log_below = λ r h. R.log_below r (omega arith);
    count = used_alike cells gapped (λ i. ap used (gapped_rank i)) n ∙ R.count;
  }

  -- the item is put into the cell of the tail, which is free
  module _ (x : X) (unused : used (cells (t % n)).rank ≡ false) where
    abbrev itemed : ℕ → Cell X
    itemed = put cells (t % n) (cell_item x (cells (t % n)))

    pub itemed_rank : (i : ℕ) → (itemed i).rank ≡ (cells i).rank
    itemed_rank = put_keeps (λ c. c.rank) cells (t % n) (cell_item x (cells (t % n))) refl

    itemed_gap : (i : ℕ) → (itemed i).gap ≡ (cells i).gap
    itemed_gap = put_keeps (λ c. c.gap) cells (t % n) (cell_item x (cells (t % n))) refl

    -- a used cell keeps its item
    itemed_item : (i r : ℕ) → (cells i).rank ≡ pos r → (itemed i).item ≡ (cells i).item
    itemed_item i r e = put_at (λ c. c.item ≡ (cells i).item) cells (t % n) (cell_item x (cells (t % n))) i (λ q. absurd (unused_no (cells (t % n)).rank r unused (ap (λ j. (cells j).rank) (sym q) ∙ e))) (λ q. refl)

    pub fill_spares : (r : ℕ) → Spares cells itemed r
    fill_spares r i e = (itemed_rank i ∙ e, itemed_item i r e)

    pub fill_grows : GapsGrow cells itemed
    fill_grows i r = subst (λ v. AtLeast v r) (sym (itemed_gap i))

    pub ring_fill : Ring n start itemed t announced skipped log
    ring_fill = record {
      some_cells = R.some_cells;
      cell_is = λ i r h. let u : (cells i).rank ≡ pos r = sym (itemed_rank i) ∙ h in let q = R.cell_is i r u in (q.0, subst (λ v. In (announcement r v) announced) (sym (itemed_item i r u)) q.1, q.2);
      gap_below = λ i g h. R.gap_below i g (sym (itemed_gap i) ∙ h);
      settled = R.settled;
      kept = λ r y m. elim (R.kept r y m) [ inl q ↦ inl (itemed_rank (r % n) ∙ q.0, itemed_item (r % n) r q.0 ∙ q.1, q.2) | inr q ↦ inr ((λ i h. q.0 i (sym (itemed_rank i) ∙ h)), q.1, q.2) ];
      announced_once = R.announced_once;
      announced_below = R.announced_below;
      skipped_below = R.skipped_below;
      announced_not_skipped = R.announced_not_skipped;
      skipped_gap = λ r m. fill_grows (r % n) r (R.skipped_gap r m);
      log_announced = R.log_announced;
      log_below = R.log_below;
      count = used_alike cells itemed (λ i. ap used (itemed_rank i)) n ∙ R.count;
    }

  -- the rank is put into the cell of the tail, which is free and has the item
  module _ (x : X) (unused : used (cells (t % n)).rank ≡ false) (item_is : (cells (t % n)).item ≡ x) where
    abbrev ranked : ℕ → Cell X
    ranked = put cells (t % n) (cell_rank (pos t) (cells (t % n)))

    ranked_item : (i : ℕ) → (ranked i).item ≡ (cells i).item
    ranked_item = put_keeps (λ c. c.item) cells (t % n) (cell_rank (pos t) (cells (t % n))) refl

    ranked_gap : (i : ℕ) → (ranked i).gap ≡ (cells i).gap
    ranked_gap = put_keeps (λ c. c.gap) cells (t % n) (cell_rank (pos t) (cells (t % n))) refl

    ranked_rank : (i r : ℕ) → (cells i).rank ≡ pos r → (ranked i).rank ≡ pos r
    ranked_rank i r e = put_at (λ c. c.rank ≡ pos r) cells (t % n) (cell_rank (pos t) (cells (t % n))) i (λ q. absurd (unused_no (cells (t % n)).rank r unused (ap (λ j. (cells j).rank) (sym q) ∙ e))) (λ q. e)

    pub announce_spares : (r : ℕ) → Spares cells ranked r
    announce_spares r i e = (ranked_rank i r e, ranked_item i)

    pub announce_grows : GapsGrow cells ranked
    announce_grows i r = subst (λ v. AtLeast v r) (sym (ranked_gap i))

    stands : InCell n ranked log t x
    stands = (ap (λ c. c.rank) (put_same cells (t % n) (cell_rank (pos t) (cells (t % n)))), ranked_item (t % n) ∙ item_is, R.log_below t (omega arith))

    -- nothing was announced under this rank
    ranked_once : (r : ℕ) → Dec (t ≡ r) → times_announced r (announcement t x ∷ announced) ≤ 1
    ranked_once r (yes e) =
        let same : times_announced r (announcement t x ∷ announced) ≡ suc (times_announced r announced) = announced_same r (announcement t x) announced e in
        let none : times_announced r announced ≡ 0 = announced_none r announced (λ y m. let b : r < t = R.announced_below r y m in omega arith) in
        omega arith
    ranked_once r (no h) = subst (λ v. v ≤ 1) (sym (announced_other r (announcement t x) announced h)) (R.announced_once r)

    ranked_count : used_cells ranked n ≡ undelivered (announcement t x ∷ announced) log
    ranked_count =
        let change : used_cells ranked n + one_if (used (cells (t % n)).rank) ≡ used_cells cells n + 1 = used_change cells (t % n) (cell_rank (pos t) (cells (t % n))) n (mod-lt t R.some_cells) in
        let was : one_if (used (cells (t % n)).rank) ≡ 0 = ap one_if unused in
        let next : undelivered (announcement t x ∷ announced) log ≡ suc (undelivered announced log) = undelivered_next (announcement t x) announced log (R.log_below t (omega arith)) in
        let before : used_cells cells n ≡ undelivered announced log = R.count in
        omega arith

    pub ring_announce : Ring n start ranked (t + 1) (announcement t x ∷ announced) skipped log
    ring_announce = record {
      some_cells = R.some_cells;
      cell_is = λ i r h. put_at (λ c. c.rank ≡ pos r → (r % n ≡ i) × In (announcement r c.item) (announcement t x ∷ announced) × (times r log ≡ 0)) cells (t % n) (cell_rank (pos t) (cells (t % n))) i
          (λ q k. let e : t ≡ r = pos_eq t r k in (ap (λ v. v % n) (sym e) ∙ sym q, inl (ap₂ announcement (sym e) item_is), R.log_below r (omega arith)))
          (λ q k. let p = R.cell_is i r k in (p.0, inr p.1, p.2)) h;
      gap_below = λ i g h. let b : g < t = R.gap_below i g (sym (ranked_gap i) ∙ h) in omega arith;
      settled = λ r lo hi. elim (below_next r t hi) [ inl b ↦ elim (R.settled r lo b) [ inl m ↦ inl (m.0, inr m.1) | inr m ↦ inr m ] | inr e ↦ inl (x, inl (ap (λ v. announcement v x) e)) ];
      kept = λ r y m. elim m [
        | inl e ↦ subst (λ v. InCell n ranked log v.rank v.item ⊎ InLog n ranked log v.rank v.item) (sym e) (inl stands)
        | inr m ↦ elim (R.kept r y m) [
          | inl q ↦ inl (ranked_rank (r % n) r q.0, ranked_item (r % n) ∙ q.1, q.2)
          | inr q ↦ inr ((λ i. put_at (λ c. c.rank ≡ pos r → ⊥) cells (t % n) (cell_rank (pos t) (cells (t % n))) i (λ p k. let e : t ≡ r = pos_eq t r k in let b : r < t = R.announced_below r y m in omega arith) (λ p k. q.0 i k)), q.1, q.2)
        ]
      ];
      announced_once = λ r. ranked_once r (ℕ_discrete t r);
      announced_below = λ r y m. elim m [ inl e ↦ let u : r ≡ t = ap (λ v. v.rank) e in omega arith | inr m ↦ let b : r < t = R.announced_below r y m in omega arith ];
      skipped_below = λ r m. let b : r < t = R.skipped_below r m in omega arith;
      announced_not_skipped = λ r y m k. elim m [ inl e ↦ let u : r ≡ t = ap (λ v. v.rank) e in let b : r < t = R.skipped_below r k in omega arith | inr m ↦ R.announced_not_skipped r y m k ];
      skipped_gap = λ r m. announce_grows (r % n) r (R.skipped_gap r m);
      log_announced = λ e m. inr (R.log_announced e m);
      log_below = λ r h. R.log_below r (omega arith);
      count = ranked_count;
    }

  -- the cell of the rank r₀ becomes free, and worker k's entry goes into the log
  module _ (r₀ k : ℕ) (x : X) (rank_is : (cells (r₀ % n)).rank ≡ pos r₀) (item_is : (cells (r₀ % n)).item ≡ x) where
    abbrev freed : ℕ → Cell X
    freed = put cells (r₀ % n) (cell_rank (negsuc 0) (cells (r₀ % n)))

    abbrev longer : List (Entry X)
    longer = log ++ (entry r₀ k x ∷ [])

    pub freed_item : (i : ℕ) → (freed i).item ≡ (cells i).item
    freed_item = put_keeps (λ c. c.item) cells (r₀ % n) (cell_rank (negsuc 0) (cells (r₀ % n))) refl

    freed_gap : (i : ℕ) → (freed i).gap ≡ (cells i).gap
    freed_gap = put_keeps (λ c. c.gap) cells (r₀ % n) (cell_rank (negsuc 0) (cells (r₀ % n))) refl

    -- another rank's cell is another cell
    elsewhere : (i r : ℕ) → (cells i).rank ≡ pos r → r ≢ r₀ → i ≢ r₀ % n
    elsewhere i r e h q = h (pos_eq r r₀ (sym e ∙ (ap (λ v. (cells v).rank) q ∙ rank_is)))

    freed_rank : (i r : ℕ) → (cells i).rank ≡ pos r → r ≢ r₀ → (freed i).rank ≡ pos r
    freed_rank i r e h = ap (λ c. c.rank) (put_other cells (r₀ % n) (cell_rank (negsuc 0) (cells (r₀ % n))) i (elsewhere i r e h)) ∙ e

    pub deliver_spares : (r : ℕ) → r ≢ r₀ → Spares cells freed r
    deliver_spares r h i e = (freed_rank i r e h, freed_item i)

    pub deliver_grows : GapsGrow cells freed
    deliver_grows i r = subst (λ v. AtLeast v r) (sym (freed_gap i))

    pub freed_unused : (i : ℕ) → used (cells i).rank ≡ false → used (freed i).rank ≡ false
    freed_unused i e = put_at (λ c. used c.rank ≡ false) cells (r₀ % n) (cell_rank (negsuc 0) (cells (r₀ % n))) i (λ q. refl) (λ q. e)

    -- a rank in a cell afterwards stood there before, and is another
    freed_was : (i r : ℕ) → (freed i).rank ≡ pos r → ((cells i).rank ≡ pos r) × (r ≢ r₀)
    freed_was i r = put_at (λ c. c.rank ≡ pos r → ((cells i).rank ≡ pos r) × (r ≢ r₀)) cells (r₀ % n) (cell_rank (negsuc 0) (cells (r₀ % n))) i (λ q h. absurd (neg_pos 0 r h)) (λ q h. (h, λ e. q (sym (R.cell_is i r h).0 ∙ ap (λ v. v % n) e)))

    was_announced : In (announcement r₀ (cells (r₀ % n)).item) announced
    was_announced = (R.cell_is (r₀ % n) r₀ rank_is).1

    not_logged : times r₀ log ≡ 0
    not_logged = (R.cell_is (r₀ % n) r₀ rank_is).2

    now_logged : times r₀ longer ≡ 1
    now_logged = times_same log (entry r₀ k x) ∙ ap suc not_logged

    else_same : (r : ℕ) → r ≢ r₀ → times r longer ≡ times r log
    else_same r h = times_other log (entry r₀ k x) r (λ e. h (sym e))

    in_log : (y : X) → (cells (r₀ % n)).item ≡ y → InLog n freed longer r₀ y
    in_log y e = ((λ i h. (freed_was i r₀ h).1 refl), (k, subst (λ v. In (entry r₀ k v) longer) (sym item_is ∙ e) (in_last (entry r₀ k x) log)), now_logged)

    still_kept : (r : ℕ) (y : X) → Dec (r ≡ r₀) → InCell n cells log r y ⊎ InLog n cells log r y → InCell n freed longer r y ⊎ InLog n freed longer r y
    still_kept r y (yes e) (inl q) = inr (subst (λ v. InLog n freed longer v y) (sym e) (in_log y (ap (λ v. (cells (v % n)).item) (sym e) ∙ q.1)))
    still_kept r y (no h) (inl q) = inl (freed_rank (r % n) r q.0 h, freed_item (r % n) ∙ q.1, else_same r h ∙ q.2)
    still_kept r y (yes e) (inr q) = absurd (q.0 (r₀ % n) (rank_is ∙ ap pos (sym e)))
    still_kept r y (no h) (inr q) = inr ((λ i u. q.0 i (freed_was i r u).0), (q.1.0, in_left (entry r q.1.0 y) log (entry r₀ k x ∷ []) q.1.1), else_same r h ∙ q.2)

    freed_count : used_cells freed n ≡ undelivered announced longer
    freed_count =
        let change : used_cells freed n + one_if (used (cells (r₀ % n)).rank) ≡ used_cells cells n + 0 = used_change cells (r₀ % n) (cell_rank (negsuc 0) (cells (r₀ % n))) n (mod-lt r₀ R.some_cells) in
        let was : one_if (used (cells (r₀ % n)).rank) ≡ 1 = ap (λ v. one_if (used v)) rank_is in
        let less : undelivered announced longer + times_announced r₀ announced ≡ undelivered announced log = undelivered_less (entry r₀ k x) announced log not_logged in
        let some : 1 ≤ times_announced r₀ announced = announced_some r₀ (cells (r₀ % n)).item announced was_announced in
        let once : times_announced r₀ announced ≤ 1 = R.announced_once r₀ in
        let before : used_cells cells n ≡ undelivered announced log = R.count in
        omega arith

    pub ring_deliver : Ring n start freed t announced skipped longer
    ring_deliver = record {
      some_cells = R.some_cells;
      cell_is = λ i r h. let u = freed_was i r h in let p = R.cell_is i r u.0 in (p.0, subst (λ v. In (announcement r v) announced) (sym (freed_item i)) p.1, else_same r u.1 ∙ p.2);
      gap_below = λ i g h. R.gap_below i g (sym (freed_gap i) ∙ h);
      settled = R.settled;
      kept = λ r y m. still_kept r y (ℕ_discrete r r₀) (R.kept r y m);
      announced_once = R.announced_once;
      announced_below = R.announced_below;
      skipped_below = R.skipped_below;
      announced_not_skipped = R.announced_not_skipped;
      skipped_gap = λ r m. deliver_grows (r % n) r (R.skipped_gap r m);
      log_announced = λ e m. elim (in_one_more e (entry r₀ k x) log m) [ inl h ↦ R.log_announced e h | inr q ↦ subst (λ v. In (announcement v.rank v.item) announced) (sym q) (subst (λ v. In (announcement r₀ v) announced) item_is was_announced) ];
      log_below = λ r h. else_same r (let b : r₀ < t = R.announced_below r₀ (cells (r₀ % n)).item was_announced in omega arith) ∙ R.log_below r h;
      count = freed_count;
    }

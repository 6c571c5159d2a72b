-- The workers' records and the receiver's phase, over a change of the cells or of one record.
use Rattle.std.proofs.Common.{◌≡◌, ℕ, ◌%◌, false, List, Some, None, Option, sym, refl, ap, ◌∙◌, subst, arith}
use Rattle.stores.specs.declared.cell.Cell.{Cell}
use Rattle.protocol.specs.declared.record.ReceiverPhase.{ReceiverPhase}
use Rattle.protocol.specs.declared.record.ReceiverPhase.TheVariants.{Probing, Busy, Found, Filled}
use Rattle.protocol.specs.declared.record.WorkerPhase.{WorkerPhase}
use Rattle.protocol.specs.declared.record.WorkerPhase.TheVariants.{Idle, Seeking, Doubting, Marked, Passed, Sure, Copied}
use Rattle.protocol.specs.declared.record.Worker.{Worker}
use Rattle.protocol.specs.Tests.{used}
use Rattle.protocol.specs.State.{put}
use Rattle.protocol.specs.Account.{In}
use Rattle.protocol.proofs.Tables.{put_at, put_both, none_some, some_eq}
use Rattle.protocol.proofs.Invariant.{WorkerFits, Workers, ReceiverFits, Spares, GapsGrow}

module _ {X : Type 0} (n : ℕ) where
  module _ (cells cells' : ℕ → Cell X) (skipped skipped' : List ℕ) (grow : GapsGrow cells cells') (more : (r : ℕ) → In r skipped → In r skipped') where
    -- a worker whose rank, if it stands, the change leaves
    pub worker_stays : (p : WorkerPhase) (w : Worker X) (h : Option ℕ) → (h ≡ Some w.rank → Spares cells cells' w.rank) → WorkerFits n cells skipped p w h → WorkerFits n cells' skipped' p w h
    worker_stays Idle w h f m = m
    worker_stays Seeking w h f m = m
    worker_stays Doubting w h f m = m
    worker_stays Marked w h f m = (m.0, grow (w.rank % n) w.rank m.1)
    worker_stays Passed w h f m = (m.0, more w.rank m.1)
    worker_stays Sure w h f m = (m.0, (f m.0 (w.rank % n) m.1).0)
    worker_stays Copied w h f m = let q = f m.0 (w.rank % n) m.1 in (m.0, q.0, q.1 ∙ m.2)

    pub workers_stay : ((r : ℕ) → Spares cells cells' r) → (ws : ℕ → Worker X) (held : ℕ → Option ℕ) → Workers n cells skipped ws held → Workers n cells' skipped' ws held
    workers_stay f ws held c k = worker_stays (ws k).phase (ws k) (held k) (λ e. f (ws k).rank) (c k)

  module _ (cells : ℕ → Cell X) (skipped : List ℕ) (ws : ℕ → Worker X) (held : ℕ → Option ℕ) (c : Workers n cells skipped ws held) (k : ℕ) (w : Worker X) where
    -- one record changes, and what its worker holds stays, or changes with it
    pub workers_turn : WorkerFits n cells skipped w.phase w (held k) → Workers n cells skipped (put ws k w) held
    workers_turn m j = put_at (λ v. WorkerFits n cells skipped v.phase v (held j)) ws k w j (λ q. subst (λ i. WorkerFits n cells skipped w.phase w (held i)) (sym q) m) (λ q. c j)

    pub workers_both : (h : Option ℕ) → WorkerFits n cells skipped w.phase w h → Workers n cells skipped (put ws k w) (put held k h)
    workers_both h m = put_both (λ v o. WorkerFits n cells skipped v.phase v o) ws held k w h m (λ j q. c j)

  -- a worker that holds a rank is not idle and has it; one that holds none is idle
  pub worker_holds : (cells : ℕ → Cell X) (skipped : List ℕ) (p : WorkerPhase) (w : Worker X) (h : Option ℕ) (r : ℕ) → WorkerFits n cells skipped p w h → h ≡ Some r → (p ≡ Idle → ⊥) × (w.rank ≡ r)
  worker_holds cells skipped Idle w h r m e = absurd (none_some r (sym m ∙ e))
  worker_holds cells skipped Seeking w h r m e = (λ q. let bad : ◌≡◌ {A = ℕ} 0 1 = cc in omega arith, some_eq w.rank r (sym m ∙ e))
  worker_holds cells skipped Doubting w h r m e = (λ q. let bad : ◌≡◌ {A = ℕ} 0 1 = cc in omega arith, some_eq w.rank r (sym m ∙ e))
  worker_holds cells skipped Marked w h r m e = (λ q. let bad : ◌≡◌ {A = ℕ} 0 1 = cc in omega arith, some_eq w.rank r (sym m.0 ∙ e))
  worker_holds cells skipped Passed w h r m e = (λ q. let bad : ◌≡◌ {A = ℕ} 0 1 = cc in omega arith, some_eq w.rank r (sym m.0 ∙ e))
  worker_holds cells skipped Sure w h r m e = (λ q. let bad : ◌≡◌ {A = ℕ} 0 1 = cc in omega arith, some_eq w.rank r (sym m.0 ∙ e))
  worker_holds cells skipped Copied w h r m e = (λ q. let bad : ◌≡◌ {A = ℕ} 0 1 = cc in omega arith, some_eq w.rank r (sym m.0 ∙ e))

  pub worker_idle : (cells : ℕ → Cell X) (skipped : List ℕ) (p : WorkerPhase) (w : Worker X) (h : Option ℕ) → WorkerFits n cells skipped p w h → h ≡ None → p ≡ Idle
  worker_idle cells skipped Idle w h m e = refl
  worker_idle cells skipped Seeking w h m e = absurd (none_some w.rank (sym e ∙ m))
  worker_idle cells skipped Doubting w h m e = absurd (none_some w.rank (sym e ∙ m))
  worker_idle cells skipped Marked w h m e = absurd (none_some w.rank (sym e ∙ m.0))
  worker_idle cells skipped Passed w h m e = absurd (none_some w.rank (sym e ∙ m.0))
  worker_idle cells skipped Sure w h m e = absurd (none_some w.rank (sym e ∙ m.0))
  worker_idle cells skipped Copied w h m e = absurd (none_some w.rank (sym e ∙ m.0))

-- the receiver's cell may become free, and keeps its item
pub receiver_stays : {X : Type 0} (c c' : Cell X) (h : Option X) (p : ReceiverPhase) → (used c.rank ≡ false → used c'.rank ≡ false) → c'.item ≡ c.item → ReceiverFits c h p → ReceiverFits c' h p
receiver_stays c c' h Probing f e m = tt
receiver_stays c c' h Busy f e m = tt
receiver_stays c c' h Found f e m = f m
receiver_stays c c' h Filled f e m = (f m.0, m.1 ∙ ap Some (sym e))

-- The memory of a rehearsal: the size of a straight record memory, and the queue that is laid out in it.
use Rattle.std.proofs.Common.{◌≡◌, ℕ, ◌^◌, ◌<◌, ◌≤◌, true, ◌&&◌, List, length, get_or, Some, None, Option, Ok, Err, Result, MatchResult, IsOk, sym, refl, subst, rules, ap, ◌∙◌, arith}
use Rattle.std.specs.Option.{option_map}
use Rattle.std.proofs.lemmas.List.FromFn.{length-map-range_with_len}
use Rattle.std.proofs.lemmas.List.{length-replicate}
use Rattle.std.proofs.lemmas.Bool.{lt-ltb, le-leb, cond-true}
use Rattle.items.specs.declared.reading.Reading.{Reading}
use Rattle.items.specs.Readings.{zero_reading}
use Rattle.stores.specs.declared.cell.Cell.{Cell}
use Rattle.stores.specs.Refusals.{Reason}
use Rattle.stores.specs.Model.{Contents, size, fresh_cell, cleared, no_contents}
use Rattle.stores.specs.Records.{records_fit, made_model}
use Rattle.arrangements.specs.Places.{every_size, same_number}
use Rattle.arrangements.specs.Arranged.{rearranged, arranged}
use Rattle.protocol.specs.declared.record.Worker.{Worker}
use Rattle.protocol.specs.declared.record.Entry.{Entry}
use Rattle.protocol.specs.Records.{Log}
use Rattle.protocol.specs.Rules.{no_lay_out}
use Rattle.protocol.specs.Views.{laid_out}
use Rattle.protocol.proofs.Tables.{none_some}
use Rattle.schedules.specs.Drains.{from_below}
use Rattle.schedules.specs.Rehearsals.{rehearsed}
use Rattle.schedules.proofs.InTime.{accepted_within}
use Rattle.runs.specs.declared.fault.RunFault.{RunFault}
use Rattle.runs.specs.declared.rehearsing.Stop.{Stop}
use Rattle.runs.specs.Faults.{run_reason}
use Rattle.runs.specs.Rehearsals.{stop_view}
use Rattle.rehearsals.specs.Outputs.{stopped_of, staged}

straight_length : {X : Type 0} (d : X) (xs : List X) → length (rearranged d every_size same_number xs) ≡ length xs
unfolding rearranged
straight_length d xs = length-map-range_with_len (λ i. get_or xs i d) 0 (length xs)

-- a straight store over so many records has as many cells
pub straight_size : (cells : List (Cell Reading)) (m m₁ : Contents Reading) → 0 < length cells → length cells ≤ 65536 →
    m₁ ≡ made_model zero_reading cells → m ≡ arranged zero_reading every_size same_number m₁ → size m ≡ length cells
straight_size cells m m₁ some few made above =
    let fit : records_fit (length cells) ≡ true = (λ i. lt-ltb 0 (length cells) some i && le-leb (length cells) 65536 few i) in
    let below : m₁ ≡ cleared zero_reading (length cells) 0 = made ∙ cond-true (records_fit (length cells)) (cleared zero_reading (length cells) 0) no_contents fit in
    ap size above ∙ straight_length (fresh_cell zero_reading) m₁.cells ∙ ap size below ∙ length-replicate (length cells) (fresh_cell zero_reading)

pub staged_is : (m : Contents Reading) (n : ℕ) (ws : List (Worker Reading)) (l : Log Reading) (entries : List (Entry Reading)) (start : ℕ) (items : List Reading) (turns : List ℕ) →
    size m ≡ n → l.entries ≡ entries → rehearsed zero_reading (laid_out zero_reading (size m) ws l start) items turns ≡ staged n ws entries start items turns
unfolding staged
staged_is m n ws l entries start items turns e f = λ i. rehearsed zero_reading (laid_out zero_reading (e i) ws (record { entries = f i; count = 0 }) start) items turns

pub no_refusal : (m : Contents Reading) (ws : List (Worker Reading)) (start n : ℕ) (why : Reason) → size m ≡ n → 0 < n → start < 2 ^ 40 → 0 < length ws → length ws ≤ 64 →
    option_map from_below (no_lay_out m ws start) ≡ Some why → ⊥
no_refusal m ws start n why e some low one few h =
    none_some why (sym (ap (option_map from_below) (accepted_within m ws start (omega (arith, e)) low one few)) ∙ h)

-- a stop tells the same number and turn as its view
pub stopped_as : {F : Type 0} (reason : F → Reason) (o : Option (Stop (RunFault F))) →
    option_map (λ s. record { number = (run_reason reason s.fault).number; turn = s.turn }) o ≡ option_map stopped_of (option_map (stop_view reason) o)
stopped_as reason None = refl
stopped_as reason (Some s) = refl

-- an answer of which no refusal can be
pub ok_unless : {V E : Type 0} (P : V → Type 0) (Q : E → Type 0) (r : Result V E) → MatchResult r P Q → ((e : E) → Q e → ⊥) → IsOk r
ok_unless P Q (Ok v) h never = search rules
ok_unless P Q (Err e) h never = absurd (never e h)

pub at_ok : {V E : Type 0} (P : V → Type 0) (Q : E → Type 0) (r : Result V E) (v : V) → r ≡ Ok v → MatchResult r P Q → P v
at_ok {V} {E} P Q r v is h = subst (λ (o : Result V E). MatchResult o P Q) is h

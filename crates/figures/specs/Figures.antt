-- Figures that are known beforehand, of the definitions that contracts cite.
use Rattle.std.specs.Prelude.{◌≡◌, ℕ, List, [], ◌∷◌, map, pos, negsuc, Some, Ok, codes}
use Rattle.std.specs.List.{range_with_len}
use Rattle.items.specs.declared.reading.Reading.{Reading}
use Rattle.items.specs.declared.notice.Notice.TheVariants.{Battery}
use Rattle.items.specs.Readings.{reading_word, zero_reading}
use Rattle.items.specs.Notices.{notice_word}
use Rattle.stores.specs.Model.{Contents, cleared, with_rank, with_gap, with_head}
use Rattle.layout.specs.Words.{byte_of}
use Rattle.layout.specs.Image.{in_words, plain, full}
use Rattle.arrangements.specs.Places.{turned_place}
use Rattle.protocol.specs.declared.record.WorkerPhase.TheVariants.{Doubting, Marked, Seeking}
use Rattle.protocol.specs.declared.record.ReceiverPhase.TheVariants.{Probing, Busy}
use Rattle.protocol.specs.declared.answer.WorkerAnswer.TheVariants as worker
use Rattle.protocol.specs.declared.answer.ReceiverAnswer.TheVariants as receiver
use Rattle.protocol.specs.Rules.{Received, Stepped, receiver_step, work_in}
use Rattle.rehearsals.specs.Outputs.{Printed}

-- word 63 of block b of a memory of n cells that is cleared at 0
abbrev pub fresh_check : ℕ → ℕ → ℕ
fresh_check n b = full (plain (in_words reading_word (cleared zero_reading n 0))) b 63

-- the eight bytes of a word, low byte first
abbrev pub bytes : ℕ → List ℕ
bytes w = map (byte_of w) (range_with_len 0 8)

-- two cells, the first three ranks handed out
abbrev pub two_cells : Contents Reading
two_cells = with_head (cleared zero_reading 2 0) 3

-- a step of a worker that doubts whether rank 2 stands in its cell, cell 0, with this gap
abbrev pub doubt : ℕ → Stepped Reading
doubt gap =
    work_in zero_reading 0 (record { phase = Doubting; rank = 2; copy = zero_reading }) (with_gap zero_reading two_cells 0 (pos gap))
    (record { entries = []; count = 0 }) Doubting

-- a step of a receiver at tail 2 with an item in hand, while cell 0 holds rank 0
abbrev pub at_used_cell : Received Reading
at_used_cell =
    receiver_step zero_reading (record { tail = 2; phase = Probing; hand = Some zero_reading }) (with_rank zero_reading two_cells 0 (pos 0))

abbrev pub past_used_cell : Received Reading
past_used_cell = receiver_step zero_reading at_used_cell.receiver at_used_cell.store

pub record KnownFigures : Type 0 where
  pub counters_check : fresh_check 21 0 ≡ 21
  pub one_cell_check : fresh_check 1 1 ≡ 0
  pub many_cells_check : fresh_check 21 1 ≡ 18446744073709551576
  pub reading_bytes :
      bytes (reading_word (record { probe = 41; sequence = 7; level = negsuc 249 })) ≡ 41 ∷ 0 ∷ 7 ∷ 0 ∷ 6 ∷ 255 ∷ 255 ∷ 255 ∷ []
  pub battery_bytes : bytes (notice_word (Battery 3 3600)) ≡ 2 ∷ 0 ∷ 3 ∷ 0 ∷ 16 ∷ 14 ∷ 0 ∷ 0 ∷ []
  pub turned_3 : turned_place 16 32 3 ≡ 17
  pub turned_2 : turned_place 16 32 2 ≡ 1
  pub turned_5 : turned_place 16 16 5 ≡ 5
  pub gap_2 : (doubt 2).answer ≡ Ok (record { answer = worker.Stepped Marked 2; worker = record { phase = Marked; rank = 2; copy = zero_reading } })
  pub gap_4 : (doubt 4).answer ≡ Ok (record { answer = worker.Stepped Marked 2; worker = record { phase = Marked; rank = 2; copy = zero_reading } })
  pub gap_1 : (doubt 1).answer ≡ Ok (record { answer = worker.Waiting 2; worker = record { phase = Seeking; rank = 2; copy = zero_reading } })
  pub busy : at_used_cell.answer ≡ Ok (receiver.Stepped Busy 2)
  pub skipped : past_used_cell.answer ≡ Ok (receiver.Skipped 2)
  pub skipped_gap : past_used_cell.store ≡ with_gap zero_reading (with_rank zero_reading two_cells 0 (pos 0)) 0 (pos 2)
  pub skipped_tail : past_used_cell.receiver.tail ≡ 3
  pub rehearsal : Printed (codes "2 2 0\n5 6 7\n0:13 1:4 0:3 2:4 1:12\n") (codes "0 0 5 0 0\n1 1 6 1 0\n4 0 7 2 0\nend 5\n")

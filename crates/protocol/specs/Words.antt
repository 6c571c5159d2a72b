-- The words that phases and answers are printed in.
use Rattle.std.specs.Prelude.{ℕ, List, ◌++◌, codes}
use Rattle.std.specs.Fmt.{decimal}
use Rattle.protocol.specs.declared.record.ReceiverPhase.{ReceiverPhase}
use Rattle.protocol.specs.declared.record.ReceiverPhase.TheVariants.{Probing, Busy, Found, Filled}
use Rattle.protocol.specs.declared.record.WorkerPhase.{WorkerPhase}
use Rattle.protocol.specs.declared.record.WorkerPhase.TheVariants.{Idle, Seeking, Doubting, Marked, Passed, Sure, Copied}
use Rattle.protocol.specs.declared.answer.ReceiverAnswer.{ReceiverAnswer}
use Rattle.protocol.specs.declared.answer.ReceiverAnswer.TheVariants.{Stepped, Skipped, Announced}

abbrev pub receiver_word : ReceiverPhase → List ℕ
receiver_word Probing = codes "probing"
receiver_word Busy = codes "busy"
receiver_word Found = codes "found"
receiver_word Filled = codes "filled"

abbrev pub worker_word : WorkerPhase → List ℕ
worker_word Idle = codes "idle"
worker_word Seeking = codes "seeking"
worker_word Doubting = codes "doubting"
worker_word Marked = codes "marked"
worker_word Passed = codes "passed"
worker_word Sure = codes "sure"
worker_word Copied = codes "copied"

-- a word, and the rank that it is about
abbrev pub word_of_rank : List ℕ → ℕ → List ℕ
word_of_rank word rank = word ++ codes " " ++ decimal rank

abbrev pub receiver_answer_text : ReceiverAnswer → List ℕ
receiver_answer_text (Stepped phase tail) = word_of_rank (receiver_word phase) tail
receiver_answer_text (Skipped rank) = word_of_rank (codes "skipped") rank
receiver_answer_text (Announced rank) = word_of_rank (codes "announced") rank

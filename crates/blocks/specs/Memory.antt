-- The model of a block memory.
use Rattle.std.specs.Prelude.{ℕ, ◌^◌, ◌≤◌, List}
use Rattle.items.specs.declared.kind.ItemKind.{Ghosts}
use Rattle.stores.specs.Model.{Contents}
use Rattle.layout.specs.Decoding.{block_model, Imaged}
use Rattle.layout.proofs.Fits.{head_bound}
use Rattle.blocks.specs.declared.memory.BlockMemory.{BlockMemory}

-- the lent bytes
abbrev pub memory : {X : Type 0} {kind : Ghosts X} → BlockMemory X kind → List ℕ
memory s = s.mem.now

-- what they mean, their words read as items of the kind
abbrev pub memory_model : {X : Type 0} {kind : Ghosts X} → BlockMemory X kind → Contents X
memory_model {kind} s = block_model kind.item s.n (memory s)

-- the bytes, if they fit, are the image of the model
abbrev pub memory_imaged : {X : Type 0} {kind : Ghosts X} → BlockMemory X kind → Type 0
memory_imaged {kind} s = Imaged kind.word kind.item s.n (memory s)

pub memory_bound : {X : Type 0} {kind : Ghosts X} (s : BlockMemory X kind) → (memory_model s).head ≤ 2 ^ 40
memory_bound {kind} s = head_bound kind.item s.n (memory s)

-- The two steps of a block's sum, which stays shut otherwise.
use Rattle.std.proofs.Common.{◌≡◌, ℕ, suc, ◌+◌, List, refl}
use Rattle.layout.specs.Words.{word}
use Rattle.layout.specs.Blocks.{place, sum_words}
use Rattle.layout.specs.Image.{sum_of}

pub sum_none : (m : List ℕ) (b : ℕ) → sum_words m b 0 ≡ 0
unfolding sum_words
sum_none m b = refl

pub sum_more : (m : List ℕ) (b k : ℕ) → sum_words m b (suc k) ≡ sum_words m b k + word m (place b k)
unfolding sum_words
sum_more m b k = refl

pub sum_of_none : (f : ℕ → ℕ → ℕ) (b : ℕ) → sum_of f b 0 ≡ 0
unfolding sum_of
sum_of_none f b = refl

pub sum_of_more : (f : ℕ → ℕ → ℕ) (b k : ℕ) → sum_of f b (suc k) ≡ sum_of f b k + f b k
unfolding sum_of
sum_of_more f b k = refl

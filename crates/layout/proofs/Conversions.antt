-- The conversions of std read and write words as `word`, `put` and `sum_words` do.
use Rattle.std.proofs.Common.{◌≡◌, ℕ, zero, suc, ◌+◌, ◌-◌, ◌*◌, ◌%◌, ◌^◌, ◌<◌, ◌≤◌, List, length, get_or, take, drop, sym, refl, ap, ◌∙◌, ⊎_elim, inl, inr, add-one, arith, rules}
use Rattle.std.specs.Int.{w64, to_le_bytes, from_le_bytes}
use Rattle.std.specs.List.{fold}
use Rattle.std.specs.Simd.{first_chunks}
use Rattle.std.proofs.lemmas.List.{places, ext_get_or, get_or-take, get_or-drop, drop-drop}
use Rattle.std.proofs.lemmas.Bool.{cases_lt}
use borrow.Rule.Slice.PartMut.{put_mid}
use Rattle.layout.specs.Words.{word, put, byte_of}
use Rattle.layout.specs.Blocks.{place, sum_words}
use Rattle.layout.proofs.Puts.{below_8, word_same, byte_put, byte_put_other, length_put}
use Rattle.layout.proofs.Sums.{sum_none, sum_more}

pub word_le : (m bs : List ℕ) (at n : ℕ) → 8 ≤ n → bs ≡ take n (drop at m) → from_le_bytes w64 bs ≡ word m at
unfolding word
word_le m bs at n h e =
    word_same bs m 0 at (λ i l. ap (λ z. get_or bs z 0) (let d : 0 + i ≡ i = omega arith in d) ∙ ap (λ x. get_or x i 0) e ∙ get_or-take n (drop at m) i 0 (omega arith) ∙ get_or-drop at m i 0)

byte_le : (w i : ℕ) → i < 8 → get_or (to_le_bytes w64 w) i 0 ≡ byte_of w i
byte_le w = below_8 (λ i. get_or (to_le_bytes w64 w) i 0 ≡ byte_of w i) (omega arith) refl refl refl refl refl refl refl

module _ (m bs : List ℕ) (at n w : ℕ) (h : at + n ≤ length m) (long : length bs ≡ n) (eight : n ≡ 8)
    (bytes : (i : ℕ) → i < n → get_or bs i 0 ≡ byte_of w i) where
  eight_bytes : put_mid at n m bs ≡ put m at w
  eight_bytes =
      ext_get_or 0 _ _ ((search (rules, places)) ∙ sym (length_put m at w))
      (λ k l. ⊎_elim
      (λ (x : k < at). (grind (arith, places)) ∙ sym (byte_put_other m at w k (inl x)))
      (λ (x : at ≤ k). ⊎_elim
      (λ (y : k < at + n).
      let d : k ≡ at + (k - at) = omega arith in
      (grind (arith, places)) ∙ bytes (k - at) (omega arith) ∙ sym (ap (λ z. get_or (put m at w) z 0) d ∙ byte_put m at w (omega arith) (k - at) (omega arith)))
      (λ (y : at + n ≤ k). (grind (arith, places)) ∙ sym (byte_put_other m at w k (inr (omega arith)))) (cases_lt k (at + n)))
      (cases_lt k at))

pub put_le : (m bs : List ℕ) (at n w : ℕ) → at + n ≤ length m → n ≡ 8 → bs ≡ to_le_bytes w64 w → put_mid at n m bs ≡ put m at w
put_le m bs at n w h e f = eight_bytes m bs at n w h (ap length f ∙ sym e) e (λ i l. ap (λ x. get_or x i 0) f ∙ byte_le w i (omega arith))

-- the sum modulo 2^64 of words that are read one after another, the first of them word k of block 0
pub sum_read : (m l : List ℕ) (n j k a : ℕ) → j ≤ n → l ≡ drop (8 * k) m → a ≡ sum_words m 0 k % 2 ^ 64 →
    fold (λ a w. (a + from_le_bytes w64 w) % 2 ^ 64) a (take j (first_chunks 8 n l)) ≡ sum_words m 0 (k + j) % 2 ^ 64
sum_read m l n zero k a h p e = e ∙ ap (λ i. sum_words m 0 i % 2 ^ 64) (let d : k ≡ k + 0 = omega arith in d)
sum_read m l zero (suc j) k a h p e = absurd (omega arith)
sum_read m l (suc n) (suc j) k a h p e =
    let d : 8 * k ≡ place 0 k = omega arith in
    let w : from_le_bytes w64 (take 8 l) ≡ word m (place 0 k) = word_le m (take 8 l) (8 * k) 8 (omega arith) (ap (λ x. take 8 x) p) ∙ ap (word m) d in
    let next : drop 8 l ≡ drop (8 * (k + 1)) m =
    ap (λ x. drop 8 x) p ∙ drop-drop 8 (8 * k) m ∙ ap (λ i. drop i m) (let y : 8 * k + 8 ≡ 8 * (k + 1) = omega arith in y) in
    sum_read m (drop 8 l) n j (k + 1) ((a + from_le_bytes w64 (take 8 l)) % 2 ^ 64) (omega arith) next
    (rw add-one (omega (arith, e, w, sum_more m 0 k)))
    ∙ ap (λ i. sum_words m 0 i % 2 ^ 64) (let y : k + 1 + j ≡ k + suc j = omega arith in y)

-- chunk i of a list that is cut into chunks of s
chunk_at : {X : Type 0} (s n i : ℕ) (xs d : List X) → i < n → get_or (first_chunks s n xs) i d ≡ take s (drop (s * i) xs)
chunk_at s zero i xs d h = absurd (omega arith)
chunk_at s (suc n) zero xs d h = ap (λ k. take s (drop k xs)) (let e : 0 ≡ s * 0 = grind arith in e)
chunk_at s (suc n) (suc i) xs d h =
    chunk_at s n i (drop s xs) d (omega arith) ∙ ap (take s) (drop-drop (s * i) s xs ∙ ap (λ k. drop k xs) (let e : s + s * i ≡ s * suc i = grind arith in e))

-- a memory cut into blocks: the words of a block
module _ (m : List ℕ) (blocks : List (List ℕ)) (s n b : ℕ) (d : List ℕ) (e : s ≡ 512) (f : blocks ≡ first_chunks s n m) (h : b < n) where
  block_word : (k at : ℕ) → k + 8 ≤ s → 512 * b + k ≡ at → word (get_or blocks b d) k ≡ word m at
  block_word k at l p =
      word_same (get_or blocks b d) m k at
      (λ i lt. ap (λ x. get_or (get_or x b d) (k + i) 0) f ∙ ap (λ x. get_or x (k + i) 0) (chunk_at s n b m d h)
      ∙ get_or-take s (drop (s * b) m) (k + i) 0 (omega arith) ∙ get_or-drop (s * b) m (k + i) 0
      ∙ ap (λ z. get_or m z 0) (ap (λ z. z * b + (k + i)) e ∙ (let q : 512 * b + (k + i) ≡ at + i = omega arith in q)))

  block_sum : (j : ℕ) → j ≤ 63 → sum_words (get_or blocks b d) 0 j ≡ sum_words m b j
  block_sum zero l = sum_none (get_or blocks b d) 0 ∙ sym (sum_none m b)
  block_sum (suc j) l =
      omega (arith, sum_more (get_or blocks b d) 0 j, sum_more m b j, block_sum j (omega arith), block_word (place 0 j) (place b j) (omega arith) (omega arith))

  -- the check of a block, and the sum of the words before it
  pub block_check : (word (get_or blocks b d) 504 ≡ word m (place b 63)) × (sum_words (get_or blocks b d) 0 63 ≡ sum_words m b 63)
  block_check = (block_word 504 (place b 63) (omega arith) (omega arith), block_sum 63 (omega arith))

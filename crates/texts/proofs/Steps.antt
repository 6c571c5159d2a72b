-- The lexer's steps, put together.
use Rattle.std.proofs.Common.{◌≡◌, ℕ, ◌+◌, ◌-◌, ◌<◌, ◌≤◌, List, [], ◌∷◌, ◌++◌, map, length, get_or, take, drop, Some, None, sym, refl, ap, ◌∙◌, subst, arith}
use Rattle.std.specs.List.{AllByRecursion}
use Rattle.std.proofs.slice.Lists.{all_by_recursion_push}
use Rattle.std.proofs.lemmas.List.{map_push}
use Rattle.grammar.specs.Lines.{token_text, line_text}
use Rattle.grammar.specs.Scans.{line_at, Small, Ended, NoWord, NoLine}
use Rattle.grammar.proofs.Lines.{Within, one_more, last, broken, no_word_no_line}
use Rattle.grammar.proofs.Tokens.{no_second, two_numbers}
use Rattle.grammar.proofs.Places.{part_is, part_rest, next_cut, next_within, next_at, line_feed, line_same}
use Rattle.texts.specs.declared.lexer.Lexer.{Lexer}
use Rattle.texts.specs.declared.word.Saying.{Saying}
use Rattle.texts.specs.declared.word.Saying.TheVariants.{Number, Turns}
use Rattle.texts.specs.declared.word.Word.{Word}
use Rattle.texts.specs.Words.{said, token_of, bytes_of, line_of, whole, left, Moved, BytePassed, NoByte, NumberRead, SayingRead, PartOf, WordPassed, InLine, LinePassed}

pub same_text : (old new : Lexer) → new.text ≡ old.text → whole new ≡ whole old
same_text old new e = ap (λ t. t.now) e

pub moved_on : {a b c : Lexer} → Moved a b → Moved b c → Moved a c
moved_on {a} {b} {c} m n = record { text = n.text ∙ m.text; forward = omega (arith, m.forward, n.forward) }

-- past a byte
module _ {b : ℕ} {old new : Lexer} (h : BytePassed b old new) where
  there : line_at (whole new) new.at ≡ line_at (whole old) (old.at + 1)
  there = λ i. line_at (same_text old new h.text i) (h.place i)

  in_text : old.at < length (whole old)
  in_text = next_within (whole old) old.at b h.next

  the_byte : get_or (whole old) old.at 0 ≡ b
  the_byte = (next_at (whole old) old.at b in_text).1 h.next

  pub byte_moved : Moved old new
  byte_moved = record { text = h.text; forward = omega (arith, h.place) }

  pub byte_cut : left old ≡ b ∷ left new
  byte_cut = next_cut (whole old) old.at b h.next ∙ (λ i. b ∷ drop (sym h.place i) (sym (same_text old new h.text) i))

  pub feed_line : b ≡ 10 → new.line ≡ old.line + 1
  feed_line e = new.placed ∙ there ∙ line_feed (whole old) old.at in_text (the_byte ∙ e) ∙ ap (λ n. n + 1) (sym old.placed)

  pub other_line : (b ≡ 10 → ⊥) → new.line ≡ old.line
  other_line n = new.placed ∙ there ∙ line_same (whole old) old.at in_text (λ e. n (sym the_byte ∙ e)) ∙ sym old.placed

-- past what a word says
pub record SayingPassed (old : Lexer) (s : Saying) (new : Lexer) : Type 0 where
  pub moved : Moved old new
  pub same_line : new.line ≡ old.line
  pub small : Small (said s)
  pub cut : left old ≡ token_text (said s) ++ left new
  pub ended : Ended (said s) (left new)

saying_passed : {old new : Lexer} (s : Saying) → SayingRead old (Some s) new → SayingPassed old s new
saying_passed {old} {new} (Number v) (mid, r, n) =
    let one : SayingPassed old (Number v) mid = record {
      moved = r.moved;
      same_line = r.same_line;
      small = r.number.0;
      cut = r.number.1;
      ended = (r.number.2, n.other);
    } in
    subst (SayingPassed old (Number v)) (sym n.same) one
saying_passed {old} {new} (Turns s) (mid, after, first, colon, second) = record {
  moved = moved_on first.moved (moved_on (byte_moved colon) second.moved);
  same_line = second.same_line ∙ other_line colon (λ e. omega arith) ∙ first.same_line;
  small = (first.number.0, second.number.0);
  cut = two_numbers (left old) (left mid) s.party first.number (left after) (byte_cut colon) s.count (left new) second.number;
  ended = second.number.2;
}

-- a colon that no number follows
pub half_word : {old mid after new : Lexer} {party : ℕ} → NumberRead old (Some party) mid → BytePassed 58 mid after →
    NumberRead after None new → NoWord (left old)
half_word {old} {mid} {after} {new} {party} first colon second =
    no_second (left old) (left mid) party first.number (left after) (byte_cut colon) (left new) second.number

-- a word that was read
pub word_passed : {old new : Lexer} (w : Word) → SayingRead old (Some w.says) new → bytes_of w ≡ take (new.at - old.at) (drop old.at (whole old)) →
    line_of w ≡ old.line → WordPassed old w new
word_passed {old} {new} w read part line =
    let s = saying_passed w.says read in
    let same = same_text old new s.moved.text in
    let within : new.at ≤ length (whole old) = omega (arith, new.within, ap length same) in
    record {
      moved = s.moved;
      word = record {
        part = part;
        line = line ∙ old.placed;
        spelled = part ∙ part_is (whole old) (token_text (token_of w)) old.at new.at s.moved.forward within (s.cut ∙ ap (λ l. token_text (token_of w) ++ drop new.at l) same);
        small = s.small;
      };
      ended = s.ended;
      same_line = s.same_line;
    }

-- so far the words of a line, in the loop that reads it
pub record Reading (old cur : Lexer) (ws : List Word) : Type 0 where
  pub moved : Moved old cur
  pub line : cur.line ≡ old.line
  pub words : AllByRecursion (InLine (whole old) old.line) ws
  pub within : Within (left old) (left cur) (map token_of ws)

pub empty_line : {old new : Lexer} → BytePassed 10 old new → LinePassed old [] new
empty_line h = record { moved = byte_moved h; line = feed_line h refl; words = tt; cut = byte_cut h }

pub no_word : {old cur : Lexer} {ws : List Word} → Reading old cur ws → NoWord (left cur) → NoLine (left old)
no_word r n = no_word_no_line r.within n

-- after one more word
module _ {old cur mid : Lexer} {ws : List Word} {w : Word} (r : Reading old cur ws) (h : WordPassed cur w mid) where
  word_cut : left cur ≡ token_text (token_of w) ++ left mid
  word_cut =
      part_rest (whole cur) cur.at mid.at h.moved.forward
      ∙ (λ i. (sym h.word.part ∙ h.word.spelled) i ++ drop mid.at (sym (same_text cur mid h.moved.text) i))

  in_line : InLine (whole old) old.line w
  in_line = record {
    from = cur.at;
    to = mid.at;
    part = subst (λ t. PartOf t cur.at mid.at w) (same_text old cur r.moved.text) h.word;
    line = h.word.line ∙ sym cur.placed ∙ r.line;
  }

  words_on : AllByRecursion (InLine (whole old) old.line) (ws ++ w ∷ [])
  words_on = all_by_recursion_push (InLine (whole old) old.line) ws w r.words in_line

  moved_there : Moved old mid
  moved_there = moved_on r.moved h.moved

  line_there : mid.line ≡ old.line
  line_there = h.same_line ∙ r.line

  pub line_done : {new : Lexer} → BytePassed 10 mid new → LinePassed old (ws ++ w ∷ []) new
  line_done {new} b = record {
    moved = moved_on moved_there (byte_moved b);
    line = feed_line b refl ∙ ap (λ n. n + 1) line_there;
    words = words_on;
    cut =
        last r.within (token_of w) (left mid) h.word.small word_cut h.ended (left new) (byte_cut b)
        ∙ ap (λ l. line_text l ++ left new) (sym (map_push token_of ws w));
  }

  -- no line feed follows
  module _ {other : Lexer} (no_feed : NoByte 10 mid other) where
    pub line_more : {new : Lexer} → BytePassed 32 other new → Reading old new (ws ++ w ∷ [])
    line_more {new} byte =
        let b = subst (λ (l : Lexer). BytePassed 32 l new) no_feed.same byte in
        record {
          moved = moved_on moved_there (byte_moved b);
          line = other_line b (λ e. omega arith) ∙ line_there;
          words = words_on;
          within =
              subst (Within (left old) (left new)) (sym (map_push token_of ws w))
              (one_more r.within (token_of w) (left mid) h.word.small word_cut h.ended (left new) (byte_cut b));
        }

    pub line_broken : {new : Lexer} → NoByte 32 other new → NoLine (left old)
    line_broken {new} byte =
        let b = subst (λ (l : Lexer). NoByte 32 l new) no_feed.same byte in
        broken r.within (token_of w) (left mid) h.word.small word_cut h.ended no_feed.other b.other

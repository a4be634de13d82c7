-- The lines of a source, one after another.
use Rattle.std.proofs.Common.{◌≡◌, ℕ, ◌-◌, ◌<◌, ◌≤◌, Bool, true, false, not, List, [], ◌∷◌, ◌++◌, length, take, drop, map, Option, Some, None, refl, sym, ◌∙◌, ap, subst, arith}
use Rattle.std.specs.Prelude.{if◌then◌else◌, ◌==◌}
use Rattle.std.proofs.lemmas.List.{take-append-drop, append-nil}
use Rattle.std.proofs.lemmas.Bool.Decides.{nat_tests}
use Rattle.asm_grammar.specs.Text.{front_of, behind}
use Rattle.asm_grammar.specs.Lines.{put_before, lines_in, item_of, items_in}
use Rattle.asm_grammar.proofs.Fronts.{take_front, drop_front}

-- no byte is a line feed
abbrev HasNoFeed : List ℕ → Type 0
HasNoFeed [] = Unit {0}
HasNoFeed (byte ∷ bytes) = ((byte == 10) ≡ false) × HasNoFeed bytes

pub goes_on : (byte : ℕ) → not (byte == 10) ≡ true → (byte == 10) ≡ false
goes_on byte e = grind (arith, nat_tests)

ends : (byte : ℕ) → not (byte == 10) ≡ false → byte ≡ 10
ends byte e = grind (arith, nat_tests)

no_feed_by : (byte : ℕ) (front : List ℕ) (t : Bool) → not (byte == 10) ≡ t → HasNoFeed front → HasNoFeed (if t then byte ∷ front else [])
no_feed_by byte front true e h = (goes_on byte e, h)
no_feed_by byte front false e h = tt

front_has_no_feed : (text : List ℕ) → HasNoFeed (front_of (λ byte. not (byte == 10)) text)
front_has_no_feed [] = tt
front_has_no_feed (byte ∷ text) = no_feed_by byte (front_of (λ byte. not (byte == 10)) text) (not (byte == 10)) refl (front_has_no_feed text)

feed_by : (byte : ℕ) (text : List ℕ) (t : Bool) (b : ℕ) (more : List ℕ) → not (byte == 10) ≡ t
    → (behind (λ byte. not (byte == 10)) text ≡ b ∷ more → b ≡ 10) → (if t then behind (λ byte. not (byte == 10)) text else byte ∷ text) ≡ b ∷ more
    → b ≡ 10
feed_by byte text true b more e h f = h f
feed_by byte text false b more e h f = (let same : byte ≡ b = cc in sym same ∙ ends byte e)

behind_feed : (text : List ℕ) (b : ℕ) (more : List ℕ) → behind (λ byte. not (byte == 10)) text ≡ b ∷ more → b ≡ 10
behind_feed [] b more e = absurd (cc)
behind_feed (byte ∷ text) b more e = feed_by byte text (not (byte == 10)) b more refl (behind_feed text b more) e

lines_ended : (text more : List ℕ) → HasNoFeed text → lines_in (text ++ 10 ∷ more) ≡ Some text ∷ lines_in more
unfolding lines_in
lines_ended [] more h = refl
lines_ended (byte ∷ text) more h = rw h.0 (ap (put_before byte) (lines_ended text more h.1))

lines_open : (byte : ℕ) (text : List ℕ) → HasNoFeed (byte ∷ text) → lines_in (byte ∷ text) ≡ None ∷ []
unfolding lines_in
lines_open byte [] h = rw h.0 refl
lines_open byte (next ∷ text) h = rw h.0 (ap (put_before byte) (lines_open next text h.1))

-- a last line without its line feed
open_lines : (text : List ℕ) (n : ℕ) → n ≡ length (front_of (λ byte. not (byte == 10)) text) → drop n text ≡ [] → 0 < length text
    → lines_in text ≡ None ∷ lines_in (drop n text)
unfolding lines_in
open_lines [] n is e some = absurd (omega (arith, some))
open_lines (byte ∷ text) n is e some =
    let whole : byte ∷ text ≡ take n (byte ∷ text) = sym (take-append-drop n (byte ∷ text)) ∙ ap (λ (l : List ℕ). take n (byte ∷ text) ++ l) e ∙ append-nil (take n (byte ∷ text)) in
    let front : take n (byte ∷ text) ≡ front_of (λ byte. not (byte == 10)) (byte ∷ text) = ap (λ (k : ℕ). take k (byte ∷ text)) is ∙ take_front (λ byte. not (byte == 10)) (byte ∷ text) in
    let free : HasNoFeed (byte ∷ text) = subst (λ (l : List ℕ). HasNoFeed l) (sym (whole ∙ front)) (front_has_no_feed (byte ∷ text)) in
    lines_open byte text free ∙ ap (λ (l : List ℕ). None ∷ lines_in l) (sym e)

-- a line and its line feed
ended_lines : (text : List ℕ) (n b : ℕ) (more : List ℕ) → n ≡ length (front_of (λ byte. not (byte == 10)) text) → drop n text ≡ b ∷ more
    → lines_in text ≡ Some (take n text) ∷ lines_in more
ended_lines text n b more is e =
    let front : take n text ≡ front_of (λ byte. not (byte == 10)) text = ap (λ (k : ℕ). take k text) is ∙ take_front (λ byte. not (byte == 10)) text in
    let left : drop n text ≡ behind (λ byte. not (byte == 10)) text = ap (λ (k : ℕ). drop k text) is ∙ drop_front (λ byte. not (byte == 10)) text in
    let feed : b ≡ 10 = behind_feed text b more (sym left ∙ e) in
    let free : HasNoFeed (take n text) = subst (λ (l : List ℕ). HasNoFeed l) (sym front) (front_has_no_feed text) in
    let split : text ≡ take n text ++ 10 ∷ more = sym (take-append-drop n text) ∙ ap (λ (l : List ℕ). take n text ++ l) (e ∙ ap (λ (k : ℕ). k ∷ more) feed) in
    ap lines_in split ∙ lines_ended (take n text) more free

pub open_line : (text back : List ℕ) (n : ℕ) → n ≡ length (front_of (λ byte. not (byte == 10)) text) → back ≡ drop n text → length back < 1
    → 0 < length text → lines_in text ≡ None ∷ lines_in back
open_line text [] n is cut none some = open_lines text n is (sym cut) some ∙ ap (λ (l : List ℕ). None ∷ lines_in l) (sym cut)
open_line text (b ∷ back) n is cut none some = absurd (omega (arith, none))

whole : (xs : List ℕ) → take (length xs) xs ≡ xs
whole [] = refl
whole (x ∷ xs) = ap (λ (l : List ℕ). x ∷ l) (whole xs)

pub ended_line : (text front back : List ℕ) (n : ℕ) → n ≡ length (front_of (λ byte. not (byte == 10)) text) → front ≡ take n text → back ≡ drop n text
    → 1 ≤ length back → lines_in text ≡ Some front ∷ lines_in (take (length back - 1) (drop 1 back))
ended_line text front [] n is cut left some = absurd (omega (arith, some))
ended_line text front (b ∷ back) n is cut left some =
    let all : take (length (b ∷ back) - 1) back ≡ back = ap (λ (k : ℕ). take k back) (omega arith) ∙ whole back in
    ended_lines text n b back is (sym left) ∙ ap (λ (l : List ℕ). Some l ∷ lines_in back) (sym cut) ∙ ap (λ (l : List ℕ). Some front ∷ lines_in l) (sym all)

-- what the lines of a source say, by its lines
pub item_by_line : (text more : List ℕ) (line : Option (List ℕ)) → lines_in text ≡ line ∷ lines_in more → items_in text ≡ item_of line ∷ items_in more
unfolding items_in
item_by_line text more line e = ap (λ (l : List (Option (List ℕ))). map item_of l) e

-- Laws of images, which the contracts of the calls pass on.
use Rattle.std.proofs.Common.{◌≡◌, ◌+◌, ◌-◌, ◌*◌, ◌/◌, ◌%◌, ◌^◌, ◌<◌, ◌≤◌, ◌==◌, ◌&&◌, if◌then◌else◌, ℕ, Bool, true, false, not, nat_lt, min, List, ◌++◌, length, take, drop, replicate, get_or, Option, Some, None, Ok, IsTrue, refl, sym, ap, ◌∙◌, arith, subst, inl, inr}
use Rattle.std.proofs.lemmas.List.{get_or-take, get_or-drop, get_or_append_left, get_or-append_right, get_or-replicate, same_lists, length-take, length-take-le, drop-take, take-take, length-drop, length-append, length-replicate}
use Rattle.std.proofs.lemmas.Bool.{cases_lt, eq-eqb, le-ltb, lt-ltb, or_parts, or_from}
use Rattle.std.proofs.lemmas.Bool.Decides.{nat_tests}
use Rattle.aout_image.specs.declared.Kind.{Kind}
use Rattle.aout_image.specs.declared.Kind.TheVariants.{Impure, Shared, Paged}
use Rattle.aout_image.specs.declared.Image.{Image}
use Rattle.aout_image.specs.declared.Judged.{Judged}
use Rattle.aout_image.specs.declared.Judged.TheVariants.{Is, NotImage}
use Rattle.aout_image.specs.Image.{word_at, facts_of, kind_of, judged_facts, judged_kind, judgement, IfImage, IsSound, file_length_of, is_ragged, is_too_large, is_cut_short, starts_outside, is_paged, Loaded, loaded, loaded_if, judged_image, judged_of, page_at, page_from, in_pages, text_pages_of, image_data_pages, text_given, data_given, text_offset, segment_of, pages_of, given_of, offset_of, has_text_segment, pages_for, magic_of, HasPages, FillsPage, header_of}

-- a word of the front
pub word_at-take : (n : ℕ) (bytes : List ℕ) (at : ℕ) → at + 4 ≤ n → word_at (take n bytes) at ≡ word_at bytes at
word_at-take n bytes at h =
    omega (arith, get_or-take n bytes at 0 (omega arith), get_or-take n bytes (at + 1) 0 (omega arith), get_or-take n bytes (at + 2) 0 (omega arith), get_or-take n bytes (at + 3) 0 (omega arith))

-- a file is judged by its first 32 bytes
pub facts_of-take : (bytes : List ℕ) (kind : Kind) → facts_of (take 32 bytes) kind ≡ facts_of bytes kind
unfolding facts_of
facts_of-take bytes kind =
    let text = word_at-take 32 bytes 4 (omega arith) in
    let «data» = word_at-take 32 bytes 8 (omega arith) in
    let bss = word_at-take 32 bytes 12 (omega arith) in
    let entry = word_at-take 32 bytes 20 (omega arith) in
    cc (text, «data», bss, entry)

pub judged_kind-take : (kind : Option Kind) (bytes : List ℕ) (len : ℕ) → judged_kind kind (take 32 bytes) len ≡ judged_kind kind bytes len
judged_kind-take None bytes len = refl
judged_kind-take (Some kind) bytes len = ap (λ (i : Image). judged_facts i len) (facts_of-take bytes kind)

pub judgement-take : (bytes : List ℕ) (len : ℕ) → judgement (take 32 bytes) len ≡ judgement bytes len
unfolding judgement
judgement-take bytes len =
    let magic = word_at-take 32 bytes 0 (omega arith) in
    ap (λ (j : Judged). if nat_lt len 32 then NotImage 1 else j)
    (judged_kind-take (kind_of (word_at (take 32 bytes) 0)) bytes len ∙ ap (λ (m : ℕ). judged_kind (kind_of m) bytes len) magic)

-- what is left of the reasons where none holds
after_four : (a b c d : Bool) (image : Image) (P : Image → Type 0) → (a ≡ false → b ≡ false → c ≡ false → d ≡ false → P image)
    → IfImage (if a then NotImage 3 else (if b then NotImage 4 else (if c then NotImage 5 else (if d then NotImage 6 else Is image)))) P
after_four true b c d image P h = tt
after_four false true c d image P h = tt
after_four false false true d image P h = tt
after_four false false false true image P h = tt
after_four false false false false image P h = h refl refl refl refl

-- what no raggedness says
both_of : (p x y : Bool) → (p && not (x && y)) ≡ false → IsTrue p → IsTrue x × IsTrue y
both_of false x y h t = cc
both_of true true true h t = (refl, refl)
both_of true false y h t = cc
both_of true true false h t = cc

sound_from : (image : Image) → is_ragged image ≡ false → is_too_large image ≡ false → starts_outside image ≡ false → IsSound image
sound_from image ragged large outside = record {
  whole_text = λ paged. let h = (both_of (is_paged image.kind) (image.text_len % 1024 == 0) (image.data_len % 1024 == 0) ragged paged).0 in grind (arith, nat_tests);
  whole_data = λ paged. let h = (both_of (is_paged image.kind) (image.text_len % 1024 == 0) (image.data_len % 1024 == 0) ragged paged).1 in grind (arith, nat_tests);
  text_fits = let h = (or_parts (nat_lt 2048 (text_pages_of image)) (nat_lt 4096 (image_data_pages image)) large).0 in grind (arith, nat_tests);
  data_fits = let h = (or_parts (nat_lt 2048 (text_pages_of image)) (nat_lt 4096 (image_data_pages image)) large).1 in grind (arith, nat_tests);
  starts_inside = grind (arith, nat_tests);
}

pub judged_facts-is : (image : Image) (len : ℕ) → IfImage (judged_facts image len) (λ i. (i ≡ image) × IsSound i × (file_length_of i ≤ len))
unfolding judged_facts
judged_facts-is image len =
    after_four (is_ragged image) (is_too_large image) (is_cut_short image len) (starts_outside image) image (λ i. (i ≡ image) × IsSound i × (file_length_of i ≤ len))
    (λ ragged large cut outside. (refl, sound_from image ragged large outside, grind (arith, nat_tests)))

-- a byte of a page: the file's where the file gives one, else zero
page_byte : (o n z v k d : ℕ) (bytes : List ℕ) → length (take n (drop o bytes)) ≡ n → o + n ≤ length bytes → k < 1024 → k + 1024 * v < n + z
    → get_or (take 1024 (drop (1024 * v) (take n (drop o bytes) ++ replicate z 0))) k d
    ≡ get_or (take (min 1024 (n - 1024 * v)) (drop (o + min (1024 * v) n) bytes) ++ replicate (1024 - min 1024 (n - 1024 * v)) 0) k d
page_byte o n z v k d bytes size within low fits =
    let xs : List ℕ = take n (drop o bytes) in
    let zs : List ℕ = replicate z 0 in
    let m = min 1024 (n - 1024 * v) in
    let ys : List ℕ = take m (drop (o + min (1024 * v) n) bytes) in
    let count : length ys ≡ m = length-take-le m (drop (o + min (1024 * v) n) bytes) (simp length-drop (omega arith)) in
    let left : get_or (take 1024 (drop (1024 * v) (xs ++ zs))) k d ≡ get_or (xs ++ zs) (1024 * v + k) d =
    get_or-take 1024 (drop (1024 * v) (xs ++ zs)) k d low ∙ get_or-drop (1024 * v) (xs ++ zs) k d in
    left ∙ elim (cases_lt (1024 * v + k) n) [
      | inl given ↦
          get_or_append_left xs zs d (1024 * v + k) (omega (arith, size, given)) ∙ get_or-take n (drop o bytes) (1024 * v + k) d given ∙ get_or-drop o bytes (1024 * v + k) d
          ∙ ap (λ (j : ℕ). get_or bytes j d) (let e : o + (1024 * v + k) ≡ o + min (1024 * v) n + k = omega (arith, given) in e)
          ∙ sym (get_or_append_left ys (replicate (1024 - m) 0) d k (omega (arith, count, given)) ∙ get_or-take m (drop (o + min (1024 * v) n) bytes) k d (omega (arith, given))
          ∙ get_or-drop (o + min (1024 * v) n) bytes k d)
      | inr past ↦
          get_or-append_right xs zs n (1024 * v + k) d size past ∙ get_or-replicate z (1024 * v + k - n) 0 d (omega (arith, fits, past))
          ∙ sym (get_or-append_right ys (replicate (1024 - m) 0) m k d count (omega (arith, past)) ∙ get_or-replicate (1024 - m) (k - m) 0 d (omega (arith, low, past)))
    ]

-- a page of a segment whose file bytes are the n ones from o
pub page_at-in_pages : (o n p v : ℕ) (bytes : List ℕ) → o + n ≤ length bytes → n ≤ 1024 * p → v < p
    → page_at v (in_pages p (take n (drop o bytes))) ≡ page_from bytes (o + min (1024 * v) n) (min 1024 (n - 1024 * v))
page_at-in_pages o n p v bytes within fits below =
    let xs : List ℕ = take n (drop o bytes) in
    let size : length xs ≡ n = length-take-le n (drop o bytes) (simp length-drop (omega arith)) in
    same_lists _ _ (simp (length-take, length-drop, length-append, length-replicate) (omega arith))
    (λ k d h. let few : k < min 1024 (min n (length bytes - o) + (1024 * p - min n (length bytes - o)) - 1024 * v) = simp (length-take, length-drop, length-append, length-replicate) at h in
    page_byte o n (1024 * p - length xs) v k d bytes size within (omega (arith, few)) (omega (arith, few)))

-- what the front of a file shows of the image
pub IfImage-map : (j : Judged) (P Q : Image → Type 0) → ((i : Image) → P i → Q i) → IfImage j P → IfImage j Q
IfImage-map (Is image) P Q f h = f image h
IfImage-map (NotImage reason) P Q f h = tt

IfImage-else : (b : Bool) (reason : ℕ) (j : Judged) (P : Image → Type 0) → IfImage j P → IfImage (if b then NotImage reason else j) P
IfImage-else true reason j P h = tt
IfImage-else false reason j P h = h

judged_kind-is : (kind : Option Kind) (head : List ℕ) (len : ℕ) → IfImage (judged_kind kind head len) (λ i. IsSound i × (file_length_of i ≤ len))
judged_kind-is None head len = tt
judged_kind-is (Some kind) head len =
    IfImage-map (judged_facts (facts_of head kind) len) (λ i. (i ≡ facts_of head kind) × IsSound i × (file_length_of i ≤ len)) (λ i. IsSound i × (file_length_of i ≤ len))
    (λ i h. (h.1, h.2)) (judged_facts-is (facts_of head kind) len)

pub judgement-is : (head : List ℕ) (len : ℕ) → IfImage (judgement head len) (λ i. IsSound i × (file_length_of i ≤ len))
unfolding judgement
judgement-is head len =
    IfImage-else (nat_lt len 32) 1 (judged_kind (kind_of (word_at head 0)) head len) (λ i. IsSound i × (file_length_of i ≤ len))
    (judged_kind-is (kind_of (word_at head 0)) head len)

-- what an image is to its file
pub record IsFileOf (image : Loaded) (bytes : List ℕ) : Type 0 where
  pub sound : IsSound image.facts
  pub whole : file_length_of image.facts ≤ length bytes
  pub is : image ≡ loaded image.facts bytes

loaded_if-is : (j : Judged) (bytes : List ℕ) (image : Loaded) → IfImage j (λ i. IsSound i × (file_length_of i ≤ length bytes))
    → loaded_if j bytes ≡ Ok image → IsFileOf image bytes
unfolding loaded
loaded_if-is (Is i) bytes image h e =
    let same : loaded i bytes ≡ image = cc in
    subst (λ (m : Loaded). IsFileOf m bytes) same (record { sound = h.0; whole = h.1; is = refl })
loaded_if-is (NotImage reason) bytes image h e = cc

pub image_of-is : (bytes : List ℕ) (image : Loaded) → judged_image bytes ≡ Ok image → IsFileOf image bytes
unfolding judged_image
image_of-is bytes image e =
    loaded_if-is (judgement bytes (length bytes)) bytes image (judgement-is bytes (length bytes)) e

judged_of-loaded_if : (j : Judged) (bytes : List ℕ) → judged_of (loaded_if j bytes) ≡ j
unfolding loaded
judged_of-loaded_if (Is image) bytes = refl
judged_of-loaded_if (NotImage reason) bytes = refl

-- the judgement step by step
pub judgement-short : (head : List ℕ) (len : ℕ) → len < 32 → NotImage 1 ≡ judgement head len
unfolding judgement
judgement-short head len h = ap (λ (b : Bool). if b then NotImage 1 else judged_kind (kind_of (word_at head 0)) head len) (sym (lt-ltb _ _ h))

pub judgement-kind : (head : List ℕ) (len : ℕ) (kind : Option Kind) → 32 ≤ len → kind ≡ kind_of (word_at head 0)
    → judged_kind kind head len ≡ judgement head len
unfolding judgement
judgement-kind head len kind h e =
    ap (λ (k : Option Kind). judged_kind k head len) e
    ∙ ap (λ (b : Bool). if b then NotImage 1 else judged_kind (kind_of (word_at head 0)) head len) (sym (le-ltb _ _ h))

-- a file is judged by its first 32 bytes and its length
pub judgement-front : (bytes head : List ℕ) (len : ℕ) → take 32 bytes ≡ head → length bytes ≡ len → judgement head len ≡ judged_of (judged_image bytes)
unfolding judged_image
judgement-front bytes head len front size =
    ap (λ (xs : List ℕ). judgement xs len) (sym front) ∙ ap (λ (n : ℕ). judgement (take 32 bytes) n) (sym size)
    ∙ judgement-take bytes (length bytes) ∙ sym (judged_of-loaded_if (judgement bytes (length bytes)) bytes)

-- segments have whole pages
pub length-in_pages : (pages : ℕ) (xs : List ℕ) → length xs ≤ 1024 * pages → length (in_pages pages xs) ≡ 1024 * pages
length-in_pages pages xs h = simp (length-append, length-replicate) (omega arith)

length-take-at-most : (n : ℕ) (xs : List ℕ) → length (take n xs) ≤ n
length-take-at-most n xs = simp length-take (omega arith)

le_pages : (n m : ℕ) → m ≤ n → m ≤ 1024 * pages_for n
le_pages n m h = omega arith

length-text : (bytes : List ℕ) (image : Loaded) → judged_image bytes ≡ Ok image → length image.text ≡ 1024 * text_pages_of image.facts
unfolding loaded
length-text bytes image e =
    let file = image_of-is bytes image e in
    let i = image.facts in
    let few = length-take-at-most (text_given i) (drop (text_offset i) bytes) in
    subst (λ (m : Loaded). length m.text ≡ 1024 * text_pages_of m.facts) (sym file.is)
    (length-in_pages (text_pages_of i) (take (text_given i) (drop (text_offset i) bytes)) (le_pages (text_given i) _ few))

length-data : (bytes : List ℕ) (image : Loaded) → judged_image bytes ≡ Ok image → length image.data ≡ 1024 * image_data_pages image.facts
unfolding loaded
length-data bytes image e =
    let file = image_of-is bytes image e in
    let i = image.facts in
    let xs = take (data_given i) (drop (text_offset i + text_given i) bytes) in
    let few = length-take-at-most (data_given i) (drop (text_offset i + text_given i) bytes) in
    subst (λ (m : Loaded). length m.data ≡ 1024 * image_data_pages m.facts) (sym file.is)
    (length-in_pages (image_data_pages i) xs (le_pages (data_given i + i.bss_len) (length xs) (omega (arith, few))))

pub has_pages : (facts : Image) (text : Bool) → HasPages facts text (pages_of text facts)
has_pages facts true bytes image e same = length-text bytes image e ∙ ap (λ (i : Image). 1024 * text_pages_of i) same
has_pages facts false bytes image e same = length-data bytes image e ∙ ap (λ (i : Image). 1024 * image_data_pages i) same

-- the two segments share the bytes of text and data among them
given_all : (apart : Bool) (text «data» : ℕ) → (if apart then text else 0) + (if apart then «data» else text + «data») ≡ text + «data»
given_all true text «data» = refl
given_all false text «data» = omega arith

-- a page of an image's segment comes from its file
segment_page : (bytes : List ℕ) (image : Loaded) (text : Bool) (v : ℕ) → judged_image bytes ≡ Ok image → v < pages_of text image.facts
    → page_at v (segment_of text image)
    ≡ page_from bytes (offset_of text image.facts + min (1024 * v) (given_of text image.facts)) (min 1024 (given_of text image.facts - 1024 * v))
unfolding loaded
segment_page bytes image true v e below =
    let file = image_of-is bytes image e in
    let i = image.facts in
    let given = given_all (has_text_segment i.kind) i.text_len i.data_len in
    subst (λ (m : Loaded). page_at v m.text ≡ page_from bytes (text_offset i + min (1024 * v) (text_given i)) (min 1024 (text_given i - 1024 * v))) (sym file.is)
    (page_at-in_pages (text_offset i) (text_given i) (text_pages_of i) v bytes (omega (arith, given, file.whole)) (le_pages (text_given i) (text_given i) (omega arith)) below)
segment_page bytes image false v e below =
    let file = image_of-is bytes image e in
    let i = image.facts in
    let given = given_all (has_text_segment i.kind) i.text_len i.data_len in
    subst (λ (m : Loaded). page_at v m.data ≡ page_from bytes (text_offset i + text_given i + min (1024 * v) (data_given i)) (min 1024 (data_given i - 1024 * v))) (sym file.is)
    (page_at-in_pages (text_offset i + text_given i) (data_given i) (image_data_pages i) v bytes (omega (arith, given, file.whole))
    (le_pages (data_given i + i.bss_len) (data_given i) (omega arith)) below)

pub fills_page : (facts : Image) (text : Bool) (v offset count : ℕ) → v < pages_of text facts
    → offset_of text facts + min (1024 * v) (given_of text facts) ≡ offset → min 1024 (given_of text facts - 1024 * v) ≡ count
    → FillsPage facts text v offset count
fills_page facts text v offset count below at many bytes image e same =
    segment_page bytes image text v e (subst (λ (i : Image). v < pages_of text i) (sym same) below)
    ∙ ap (λ (i : Image). page_from bytes (offset_of text i + min (1024 * v) (given_of text i)) (min 1024 (given_of text i - 1024 * v))) same
    ∙ ap (λ (o : ℕ). page_from bytes o (min 1024 (given_of text facts - 1024 * v))) at
    ∙ ap (λ (n : ℕ). page_from bytes offset n) many

-- writing and reading

word_bytes-word : (n : ℕ) → n < 2 ^ 32 → n % 2 ^ 8 + 2 ^ 8 * (n / 2 ^ 8 % 2 ^ 8) + 2 ^ 16 * (n / 2 ^ 16 % 2 ^ 8) + 2 ^ 24 * (n / 2 ^ 24 % 2 ^ 8) ≡ n
word_bytes-word n h = omega arith

record FitsWords (image : Image) : Type 0 where
  pub text : image.text_len < 2 ^ 32
  pub «data» : image.data_len < 2 ^ 32
  pub bss : image.bss_len < 2 ^ 32
  pub entry : image.entry < 2 ^ 32

-- a sound image is small
fits_words : (image : Image) → IsSound image → FitsWords image
fits_words image sound =
    let given = given_all (has_text_segment image.kind) image.text_len image.data_len in
    record {
      text = omega (arith, given);
      «data» = omega (arith, given);
      bss = omega (arith, given);
      entry = omega (arith, given);
    }

facts_of-header_of : (image : Image) → FitsWords image → facts_of (header_of image) image.kind ≡ image
unfolding facts_of header_of
facts_of-header_of image fits =
    let make : ℕ → ℕ → ℕ → ℕ → Image = λ t d b e. record { kind = image.kind; text_len = t; data_len = d; bss_len = b; entry = e } in
    let t : word_at (header_of image) 4 ≡ image.text_len = word_bytes-word image.text_len fits.text in
    let d : word_at (header_of image) 8 ≡ image.data_len = word_bytes-word image.data_len fits.data in
    let b : word_at (header_of image) 12 ≡ image.bss_len = word_bytes-word image.bss_len fits.bss in
    let e : word_at (header_of image) 20 ≡ image.entry = word_bytes-word image.entry fits.entry in
    ap (λ x. make x (word_at (header_of image) 8) (word_at (header_of image) 12) (word_at (header_of image) 20)) t
    ∙ ap (λ x. make image.text_len x (word_at (header_of image) 12) (word_at (header_of image) 20)) d
    ∙ ap (λ x. make image.text_len image.data_len x (word_at (header_of image) 20)) b
    ∙ ap (λ x. make image.text_len image.data_len image.bss_len x) e

kind_of-magic : (kind : Kind) → kind_of (magic_of kind) ≡ Some kind
kind_of-magic Impure = refl
kind_of-magic Shared = refl
kind_of-magic Paged = refl

magic_of-lt : (kind : Kind) → magic_of kind < 2 ^ 32
magic_of-lt Impure = omega arith
magic_of-lt Shared = omega arith
magic_of-lt Paged = omega arith

kind_of-header_of : (image : Image) → kind_of (word_at (header_of image) 0) ≡ Some image.kind
unfolding header_of
kind_of-header_of image =
    let m : word_at (header_of image) 0 ≡ magic_of image.kind = word_bytes-word (magic_of image.kind) (magic_of-lt image.kind) in
    ap kind_of m ∙ kind_of-magic image.kind

not_ragged : (p x y : Bool) → (IsTrue p → IsTrue x) → (IsTrue p → IsTrue y) → (p && not (x && y)) ≡ false
not_ragged false x y f g = refl
not_ragged true true true f g = refl
not_ragged true false y f g = let h = f refl in cc
not_ragged true true false f g = let h = g refl in cc

none_of_four : (a b c d : Bool) (image : Image) → a ≡ false → b ≡ false → c ≡ false → d ≡ false
    → (if a then NotImage 3 else (if b then NotImage 4 else (if c then NotImage 5 else (if d then NotImage 6 else Is image)))) ≡ Is image
none_of_four a b c d image p q r s = rw (p, q, r, s) refl

pub judged_facts-sound : (image : Image) (len : ℕ) → IsSound image → file_length_of image ≤ len → judged_facts image len ≡ Is image
unfolding judged_facts
judged_facts-sound image len sound whole =
    none_of_four (is_ragged image) (is_too_large image) (is_cut_short image len) (starts_outside image) image
    (not_ragged (is_paged image.kind) (image.text_len % 1024 == 0) (image.data_len % 1024 == 0)
    (λ paged. eq-eqb (image.text_len % 1024) 0 (sound.whole_text paged)) (λ paged. eq-eqb (image.data_len % 1024) 0 (sound.whole_data paged)))
    (or_from (nat_lt 2048 (text_pages_of image)) (nat_lt 4096 (image_data_pages image)) (le-ltb _ _ sound.text_fits) (le-ltb _ _ sound.data_fits))
    (le-ltb _ _ whole)
    (grind (arith, nat_tests, sound.starts_inside))

pub text_offset_at_least : (paged : Bool) → 32 ≤ (if paged then 1024 else 32)
text_offset_at_least true = omega arith
text_offset_at_least false = omega arith

pub judgement-header_of : (image : Image) (len : ℕ) → IsSound image → file_length_of image ≤ len → judgement (header_of image) len ≡ Is image
unfolding judgement
judgement-header_of image len sound whole =
    let behind = text_offset_at_least (is_paged image.kind) in
    let enough : nat_lt len 32 ≡ false = le-ltb _ _ (omega (arith, behind, whole)) in
    let same : judged_kind (kind_of (word_at (header_of image) 0)) (header_of image) len ≡ Is image =
    ap (λ (k : Option Kind). judged_kind k (header_of image) len) (kind_of-header_of image)
    ∙ ap (λ (i : Image). judged_facts i len) (facts_of-header_of image (fits_words image sound)) ∙ judged_facts-sound image len sound whole in
    ap (λ (b : Bool). if b then NotImage 1 else judged_kind (kind_of (word_at (header_of image) 0)) (header_of image) len) enough ∙ same

-- a longer file with the same front is the same image, if it has the image's bytes
judged_kind-longer : (kind : Option Kind) (head : List ℕ) (len m : ℕ) (image : Image) → judged_kind kind head len ≡ Is image
    → file_length_of image ≤ m → judged_kind kind head m ≡ Is image
judged_kind-longer None head len m image e enough = cc
judged_kind-longer (Some kind) head len m image e enough =
    let facts = facts_of head kind in
    let shown = subst (λ (j : Judged). IfImage j (λ i. (i ≡ facts) × IsSound i × (file_length_of i ≤ len))) e (judged_facts-is facts len) in
    ap (λ (i : Image). judged_facts i m) (sym shown.0) ∙ judged_facts-sound image m shown.1 enough

judgement-longer : (head : List ℕ) (len m : ℕ) (image : Image) → judgement head len ≡ Is image → 32 ≤ len → file_length_of image ≤ m
    → judgement head m ≡ Is image
judgement-longer head len m image e long enough =
    let behind = text_offset_at_least (is_paged image.kind) in
    let known : judged_kind (kind_of (word_at head 0)) head len ≡ Is image = judgement-kind head len (kind_of (word_at head 0)) long refl ∙ e in
    sym (judgement-kind head m (kind_of (word_at head 0)) (omega (arith, behind, enough)) refl)
    ∙ judged_kind-longer (kind_of (word_at head 0)) head len m image known enough

-- bytes of the front
take-drop-take : (o g n : ℕ) (xs : List ℕ) → o + g ≤ n → take g (drop o (take n xs)) ≡ take g (drop o xs)
take-drop-take o g n xs h =
    let split : n ≡ o + (n - o) = omega arith in
    ap (λ (k : ℕ). take g (drop o (take k xs))) split ∙ ap (take g) (drop-take o (n - o) xs) ∙ take-take g (n - o) (drop o xs) (omega arith)

loaded-take : (image : Image) (bytes : List ℕ) (n : ℕ) → file_length_of image ≤ n → loaded image (take n bytes) ≡ loaded image bytes
unfolding loaded
loaded-take image bytes n enough =
    let given = given_all (has_text_segment image.kind) image.text_len image.data_len in
    let text : List ℕ → List ℕ → Loaded = λ t d. record { facts = image; text = in_pages (text_pages_of image) t; «data» = in_pages (image_data_pages image) d } in
    ap (λ (t : List ℕ). text t (take (data_given image) (drop (text_offset image + text_given image) (take n bytes))))
    (take-drop-take (text_offset image) (text_given image) n bytes (omega (arith, given, enough)))
    ∙ ap (λ (d : List ℕ). text (take (text_given image) (drop (text_offset image) bytes)) d)
    (take-drop-take (text_offset image + text_given image) (data_given image) n bytes (omega (arith, given, enough)))

loaded_if-Is : (j : Judged) (bytes : List ℕ) (image : Loaded) → loaded_if j bytes ≡ Ok image → j ≡ Is image.facts
unfolding loaded
loaded_if-Is (Is i) bytes image e =
    let same : loaded i bytes ≡ image = cc in
    ap (λ (m : Loaded). Is m.facts) same
loaded_if-Is (NotImage reason) bytes image e = cc

-- the front of an image's file, as far as its bytes go, is the same image
pub image_of-take : (bytes : List ℕ) (n : ℕ) (image : Loaded) → judged_image bytes ≡ Ok image → file_length_of image.facts ≤ n
    → judged_image (take n bytes) ≡ Ok image
unfolding judged_image
image_of-take bytes n image e enough =
    let file = image_of-is bytes image e in
    let i = image.facts in
    let behind = text_offset_at_least (is_paged i.kind) in
    let judged : judgement bytes (length bytes) ≡ Is i = loaded_if-Is (judgement bytes (length bytes)) bytes image e in
    let long : file_length_of i ≤ length (take n bytes) = simp length-take (omega (arith, enough, file.whole)) in
    let same : judgement (take n bytes) (length (take n bytes)) ≡ Is i =
    sym (judgement-take (take n bytes) (length (take n bytes)))
    ∙ ap (λ (xs : List ℕ). judgement xs (length (take n bytes))) (take-take 32 n bytes (omega (arith, behind, enough)))
    ∙ judgement-take bytes (length (take n bytes))
    ∙ judgement-longer bytes (length bytes) (length (take n bytes)) i judged (omega (arith, behind, file.whole)) long in
    ap (λ (j : Judged). loaded_if j (take n bytes)) same ∙ ap (λ (m : Loaded). Ok m) (loaded-take i bytes n enough ∙ sym file.is)

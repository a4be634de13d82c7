-- The bytes of the text segment, as a part of the file.
use Rattle.std.proofs.Common.{◌≡◌, ◌⊎◌, inl, inr, ◌≤◌, ◌<◌, ◌+◌, ◌-◌, ◌*◌, ◌/◌, ℕ, min, Bool, true, false, if◌then◌else◌, List, length, take, drop, sym, ap, ◌∙◌, arith}
use Rattle.std.proofs.lemmas.Bool.{cases_lt, lt-ltb}
use Rattle.std.proofs.lemmas.List.{drop-take, drop-drop, drop_all, length-take}
use Rattle.aout_image.specs.declared.Image.{Image}
use Rattle.aout_image.specs.Image.{has_text_segment, file_length_of, data_start_of, offset_of, given_of, text_offset}
use Rattle.source_commands.specs.Listing.{segment_from, code_at}

-- what is after the first bytes of a part
part_behind : (o g a : ℕ) (xs : List ℕ) → take (o + g - (o + min a g)) (drop (o + min a g) xs) ≡ drop a (take g (drop o xs))
part_behind o g a xs = go (cases_lt g a)
  where
    go : (g < a) ⊎ (a ≤ g) → take (o + g - (o + min a g)) (drop (o + min a g) xs) ≡ drop a (take g (drop o xs))
    go (inl past) =
        let none : o + g - (o + min a g) ≡ 0 = omega arith in
        let short : length (take g (drop o xs)) ≤ a = simp length-take (omega arith) in
        ap (λ (n : ℕ). take n (drop (o + min a g) xs)) none ∙ sym (drop_all a (take g (drop o xs)) short)
    go (inr within) =
        let least : o + min a g ≡ o + a = omega arith in
        let many : o + g - (o + min a g) ≡ g - a = omega arith in
        let split : g ≡ a + (g - a) = omega arith in
        ap (λ (n : ℕ). take n (drop (o + min a g) xs)) many
        ∙ ap (λ (n : ℕ). take (g - a) (drop n xs)) least
        ∙ ap (take (g - a)) (sym (drop-drop a o xs))
        ∙ sym (drop-take a (g - a) (drop o xs))
        ∙ ap (λ (n : ℕ). drop a (take n (drop o xs))) (sym split)

-- an image that has a text segment has all of its text there
text_end : (has : Bool) (o t d at : ℕ) → at < 1024 * (((if has then t else 0) + 1023) / 1024) → o + t + d - d ≡ o + (if has then t else 0)
text_end true o t d at below = omega arith
text_end false o t d at below = absurd (omega (arith, below))

pub text_code : (image : Image) (file : List ℕ) (at start end : ℕ) → at < data_start_of image → start ≡ offset_of true image + min at (given_of true image)
    → end ≡ file_length_of image - image.data_len
    → take (end - start) (drop start file) ≡ code_at image file at
text_code image file at start end below first last =
    let whole : end ≡ offset_of true image + given_of true image = last ∙ text_end (has_text_segment image.kind) (text_offset image) image.text_len image.data_len at below in
    ap (λ (e : ℕ). take (e - start) (drop start file)) whole
    ∙ ap (λ (s : ℕ). take (offset_of true image + given_of true image - s) (drop s file)) first
    ∙ part_behind (offset_of true image) (given_of true image) at file
    ∙ ap (λ (b : Bool). if b then segment_from true image file at else segment_from false image file (at - data_start_of image)) (sym (lt-ltb at (data_start_of image) below))

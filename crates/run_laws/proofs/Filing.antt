-- Inputs that stand in files are as a run asks.
use Rattle.std.proofs.Common.{◌≡◌, inl, inr, ℕ, zero, suc, ◌+◌, ◌-◌, ◌*◌, ◌<◌, ◌≤◌, min, Bool, true, false, List, [], ◌∷◌, length, take, drop, Some, Result, Ok, Err, refl, sym, ap, ◌∙◌, subst, arith}
use Rattle.std.specs.Prelude.{slice_get, if◌then◌else◌}
use Rattle.std.proofs.lemmas.List.{length-take}
use Rattle.aout_image.specs.declared.Image.{Image}
use Rattle.aout_image.specs.Image.{IsSound, Loaded, loaded, judged_image, text_pages_of, image_data_pages, text_given, data_given, text_offset, has_text_segment, pages_for, file_length_of, page_at}
use Rattle.aout_image.proofs.Images.{IsFileOf, image_of-is, page_at-in_pages, length-in_pages}
use Rattle.swap_book.specs.Holdings.{Holdings}
use Rattle.flat_state.specs.Flat.{NamedImage, Inputs, argument_area}
use Rattle.page_model.specs.PageBytes.{zeros}
use Rattle.kernel_model.specs.Sound.{DataFits}
use Rattle.kernel_model.specs.Start.{ImageFits, ImagesFit}
use Rattle.flat_model.specs.Asked.{start_held}
use Rattle.run_laws.specs.Running.{FirstThere}
use Rattle.run_laws.specs.Sized.{InputsSized}
use Rattle.run_laws.specs.Files.{IsFiled, AreNumbers, AreInputs, MayBegin}
use Rattle.flat_model.proofs.Strings.{area_count}
use Rattle.run_laws.proofs.Execs.{AreFew, one_more}

pages_hold : (n : ℕ) → n ≤ 1024 * pages_for n
pages_hold n = omega arith

pages_more : (n m : ℕ) → n ≤ 1024 * pages_for (n + m)
pages_more n m = omega arith

taken : (n o : ℕ) (bytes : List ℕ) → length (take n (drop o bytes)) ≤ n
taken n o bytes = let a = length-take n (drop o bytes) in omega arith

given_sum : (image : Image) → text_given image + data_given image ≡ image.text_len + image.data_len
given_sum image = go (has_text_segment image.kind)
  where
    go : (b : Bool) → (if b then image.text_len else 0) + (if b then image.data_len else image.text_len + image.data_len) ≡ image.text_len + image.data_len
    go true = refl
    go false = omega arith

-- what a file's image is
loaded_fits : (image : Image) (bytes : List ℕ) → file_length_of image ≤ length bytes
    → (length (loaded image bytes).text ≡ 1024 * text_pages_of image) × DataFits (loaded image bytes)
unfolding loaded zeros
loaded_fits image bytes whole = (
  length-in_pages (text_pages_of image) (take (text_given image) (drop (text_offset image) bytes))
      (let a = taken (text_given image) (text_offset image) bytes in let b = pages_hold (text_given image) in omega arith),
  record {
    size = length-in_pages (image_data_pages image) (take (data_given image) (drop (text_offset image + text_given image) bytes))
        (let a = taken (data_given image) (text_offset image + text_given image) bytes in let b = pages_more (data_given image) image.bss_len in omega arith);
    rest = λ v past below. page_at-in_pages (text_offset image + text_given image) (data_given image) (image_data_pages image) v bytes (let s = given_sum image in omega (arith, whole))
        (pages_more (data_given image) image.bss_len) below
        ∙ ap (λ (n : ℕ). Rattle.aout_image.specs.Image.page_from bytes (text_offset image + text_given image + min (1024 * v) (data_given image)) n)
        (let e : min 1024 (data_given image - 1024 * v) ≡ 0 = omega (arith, past) in e);
  },
)

name_fits : (name : List ℕ) → length name < 64 → length (argument_area (name ∷ [])) ≤ 1024
name_fits name l =
    let h : AreFew 8 (name ∷ []) = one_more 7 name [] l (record { few = omega arith; short = omega arith }) in
    let a = area_count (name ∷ []) in
    let f = h.few in
    let s = h.short in
    omega arith

filed_fits : (named : NamedImage) → IsFiled named → ImageFits named × IsSound named.image.facts
filed_fits named f =
    let i : IsFileOf named.image f.file = image_of-is f.file named.image f.is in
    let x = loaded_fits named.image.facts f.file i.whole in
    let y = subst (λ (m : Loaded). (length m.text ≡ 1024 * text_pages_of named.image.facts) × DataFits m) (sym i.is) x in
    (record { text = y.0; «data» = y.1; sound = i.sound; name = name_fits named.name f.name }, i.sound)

pub images_fit : (A : Inputs) → AreInputs A → ImagesFit A.images
images_fit A x number named e = (filed_fits named (x.files number named e)).0

got : (images : List NamedImage) (n : ℕ) → n < length images → (named : NamedImage) × (slice_get images n ≡ Some named)
got [] n l = absurd (omega arith)
got (x ∷ images) zero l = (x, refl)
got (x ∷ images) (suc n) l = got images n (omega arith)

first_there : (images : List NamedImage) (ns : List ℕ) → AreNumbers images ns → FirstThere images ns
first_there images [] h = tt
first_there images (zero ∷ ns) h = absurd (omega (arith, h.0))
first_there images (suc n ∷ ns) h = (got images n (let l = h.1 in omega arith), first_there images ns h.2)

pub inputs_sized : (A : Inputs) → AreInputs A → InputsSized A
inputs_sized A x = record { images = λ number named e. (let s : IsSound named.image.facts = (filed_fits named (x.files number named e)).1 in s.data_fits); first = x.few }

pub may_begin : (A : Inputs) → AreInputs A → MayBegin A
may_begin A x = go (start_held A) refl
  where
    go : (r : Result Holdings ℕ) → start_held A ≡ r → MayBegin A
    go (Ok hs) e = inl (hs, record { images = images_fit A x; first = first_there A.images A.first x.numbers; frames = x.frames; pieces = e })
    go (Err pid) e = inr (pid, e)

-- An image that a file of bytes is, is of bytes, and starts at a longword.
use Rattle.std.proofs.Common.{◌≡◌, ℕ, zero, suc, ◌+◌, ◌-◌, ◌*◌, ◌<◌, ◌^◌, Bool, List, [], ◌∷◌, length, take, drop, replicate, Ok, sym, subst, arith}
use Rattle.aout_image.specs.Image.{Loaded, judged_image, text_pages_of, image_data_pages, text_given, data_given, text_offset, has_text_segment, in_pages, IsSound, loaded}
use Rattle.aout_image.proofs.Images.{IsFileOf, image_of-is}
use Rattle.flat_state.specs.Flat.{NamedImage}
use Rattle.vax_code.specs.Grammar.{AreOctets}
use Rattle.vax_code.proofs.Readers.{octets-append}
use Rattle.flat_laws.specs.Longwords.{ImageFits}
use Rattle.flat_laws.proofs.Octets.{take_octets, zero_octets}

drop_octets : (n : ℕ) (xs : List ℕ) → AreOctets xs → AreOctets (drop n xs)
drop_octets zero xs a = a
drop_octets (suc n) [] a = tt
drop_octets (suc n) (x ∷ xs) a = drop_octets n xs a.1

paged_octets : (pages given offset : ℕ) (xs : List ℕ) → AreOctets xs → AreOctets (in_pages pages (take given (drop offset xs)))
paged_octets pages given offset xs a =
    octets-append (take given (drop offset xs)) (replicate (1024 * pages - length (take given (drop offset xs))) 0)
    (take_octets given (drop offset xs) (drop_octets offset xs a)) (zero_octets (1024 * pages - length (take given (drop offset xs))))

pub file_fits : (named : NamedImage) (file : List ℕ) → judged_image file ≡ Ok named.image → AreOctets file → AreOctets named.name → ImageFits named
unfolding loaded
file_fits named file e a n =
    let x : IsFileOf named.image file = image_of-is file named.image e in
    let i = named.image.facts in
    let sound : IsSound i = x.sound in
    record {
      entry = start (has_text_segment i.kind) sound;
      name = n;
      text = subst (λ (m : Loaded). AreOctets m.text) (sym x.is) (paged_octets (text_pages_of i) (text_given i) (text_offset i) file a);
      «data» = subst (λ (m : Loaded). AreOctets m.data) (sym x.is) (paged_octets (image_data_pages i) (data_given i) (text_offset i + text_given i) file a);
    }
  where
    start : (b : Bool) → IsSound named.image.facts → named.image.facts.entry + 2 < 2 ^ 32
    start b s = let k = s.starts_inside in let t = s.text_fits in let d = s.data_fits in omega arith

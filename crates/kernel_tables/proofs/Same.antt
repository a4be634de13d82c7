-- Two placements whose pages are the same, one by one, have the same lists.
use Rattle.std.proofs.Common.{◌≡◌, ◌≢◌, inl, inr, ℕ, suc, List, [], ◌∷◌, length, map, get_or, Some, None, refl, sym, ap, ◌∙◌, subst, arith}
use Rattle.std.proofs.lemmas.Bool.{cases_eq}
use Rattle.std.proofs.lemmas.Bool.Decides.{nat_tests}
use Rattle.page_model.specs.Pages.{Slot, no_slot, SpacePages, TextPages, numbered, data_in, stack_in, text_in}
use Rattle.page_model.specs.Placement.{space_number, image_number}
use Rattle.flat_state.specs.Numbers.{IsAbsent, AllDistinct}

pub slots_ext : (xs ys : List Slot) → length xs ≡ length ys → ((v : ℕ) → get_or xs v no_slot ≡ get_or ys v no_slot) → xs ≡ ys
slots_ext [] [] l h = refl
slots_ext [] (y ∷ ys) l h = absurd cc
slots_ext (x ∷ xs) [] l h = absurd cc
slots_ext (x ∷ xs) (y ∷ ys) l h = ap (λ (z : Slot). z ∷ xs) (h 0) ∙ ap (λ (zs : List Slot). y ∷ zs) (slots_ext xs ys (omega arith) (λ v. h (suc v)))

-- Spaces.

pub record Named : Type 0 where
  pub sid : ℕ
  pub image : ℕ

abbrev pub name_of : SpacePages → Named
name_of s = record { sid = s.sid; image = s.image }

hit : (n : ℕ) (x : SpacePages) (xs : List SpacePages) → x.sid ≡ n → numbered space_number n (x ∷ xs) ≡ Some x
hit n x xs e = grind (arith, nat_tests)

miss : (n : ℕ) (x : SpacePages) (xs : List SpacePages) → x.sid ≢ n → numbered space_number n (x ∷ xs) ≡ numbered space_number n xs
miss n x xs e = grind (arith, nat_tests)

pub absent : (n : ℕ) (xs : List SpacePages) → IsAbsent n (map space_number xs) → numbered space_number n xs ≡ None
absent n [] z = refl
absent n (x ∷ xs) z = miss n x xs z.0 ∙ absent n xs z.1

-- the segments of each space are the same
abbrev pub SameSegments : List SpacePages → List SpacePages → Type 0
SameSegments xs ys = (n : ℕ) → (data_in (numbered space_number n xs) ≡ data_in (numbered space_number n ys)) × (stack_in (numbered space_number n xs) ≡ stack_in (numbered space_number n ys))

pub names_sids : (xs ys : List SpacePages) → map name_of xs ≡ map name_of ys → map space_number xs ≡ map space_number ys
names_sids [] [] e = refl
names_sids [] (y ∷ ys) e = absurd cc
names_sids (x ∷ xs) [] e = absurd cc
names_sids (x ∷ xs) (y ∷ ys) e =
    let a : name_of x ≡ name_of y = cc in
    let b : map name_of xs ≡ map name_of ys = cc in
    ap (λ (n : ℕ). n ∷ map space_number xs) (ap (λ (n : Named). n.sid) a) ∙ ap (λ (ns : List ℕ). y.sid ∷ ns) (names_sids xs ys b)

pub spaces_ext : (xs ys : List SpacePages) → map name_of xs ≡ map name_of ys → AllDistinct (map space_number xs) → SameSegments xs ys → xs ≡ ys
spaces_ext [] [] e d h = refl
spaces_ext [] (y ∷ ys) e d h = absurd cc
spaces_ext (x ∷ xs) [] e d h = absurd cc
spaces_ext (x ∷ xs) (y ∷ ys) e d h =
    let space_is : (x y : SpacePages) → x.sid ≡ y.sid → x.image ≡ y.image → x.data_pages ≡ y.data_pages → x.stack_pages ≡ y.stack_pages → (zs : List SpacePages) → x ∷ zs ≡ y ∷ zs = λ x y a b c d zs.
    ap (λ (n : ℕ). record x { sid = n } ∷ zs) a
    ∙ ap (λ (n : ℕ). record x { sid = y.sid; image = n } ∷ zs) b
    ∙ ap (λ (l : List Slot). record x { sid = y.sid; image = y.image; data_pages = l } ∷ zs) c
    ∙ ap (λ (l : List Slot). record y { stack_pages = l } ∷ zs) d in
    let a : name_of x ≡ name_of y = cc in
    let b : map name_of xs ≡ map name_of ys = cc in
    let sid : x.sid ≡ y.sid = ap (λ (n : Named). n.sid) a in
    let image : x.image ≡ y.image = ap (λ (n : Named). n.image) a in
    let datas : x.data_pages ≡ y.data_pages = sym (ap data_in (hit x.sid x xs refl)) ∙ (h x.sid).0 ∙ ap data_in (hit x.sid y ys (sym sid)) in
    let stacks : x.stack_pages ≡ y.stack_pages = sym (ap stack_in (hit x.sid x xs refl)) ∙ (h x.sid).1 ∙ ap stack_in (hit x.sid y ys (sym sid)) in
    let gone : numbered space_number x.sid xs ≡ None = absent x.sid xs d.0 in
    let lost : numbered space_number x.sid ys ≡ None = absent x.sid ys (subst (IsAbsent x.sid) (names_sids xs ys b) d.0) in
    let tail : xs ≡ ys = spaces_ext xs ys b d.1 (λ n. elim (cases_eq x.sid n) [
      | inl k ↦ subst (λ (m : ℕ). (data_in (numbered space_number m xs) ≡ data_in (numbered space_number m ys)) × (stack_in (numbered space_number m xs) ≡ stack_in (numbered space_number m ys))) k
          (ap data_in gone ∙ sym (ap data_in lost), ap stack_in gone ∙ sym (ap stack_in lost))
      | inr k ↦ (
        sym (ap data_in (miss n x xs k)) ∙ (h n).0 ∙ ap data_in (miss n y ys (λ m. k (sid ∙ m))),
        sym (ap stack_in (miss n x xs k)) ∙ (h n).1 ∙ ap stack_in (miss n y ys (λ m. k (sid ∙ m))),
      )
    ]) in
    space_is x y sid image datas stacks xs ∙ ap (λ (zs : List SpacePages). y ∷ zs) tail

-- Texts.

pub text_hit : (n : ℕ) (x : TextPages) (xs : List TextPages) → x.image ≡ n → numbered image_number n (x ∷ xs) ≡ Some x
text_hit n x xs e = grind (arith, nat_tests)

pub text_miss : (n : ℕ) (x : TextPages) (xs : List TextPages) → x.image ≢ n → numbered image_number n (x ∷ xs) ≡ numbered image_number n xs
text_miss n x xs e = grind (arith, nat_tests)

text_absent : (n : ℕ) (xs : List TextPages) → IsAbsent n (map image_number xs) → numbered image_number n xs ≡ None
text_absent n [] z = refl
text_absent n (x ∷ xs) z = text_miss n x xs z.0 ∙ text_absent n xs z.1

pub texts_ext : (xs ys : List TextPages) → map image_number xs ≡ map image_number ys → AllDistinct (map image_number xs)
    → ((n : ℕ) → text_in (numbered image_number n xs) ≡ text_in (numbered image_number n ys)) → xs ≡ ys
texts_ext [] [] e d h = refl
texts_ext [] (y ∷ ys) e d h = absurd cc
texts_ext (x ∷ xs) [] e d h = absurd cc
texts_ext (x ∷ xs) (y ∷ ys) e d h =
    let a : x.image ≡ y.image = cc in
    let b : map image_number xs ≡ map image_number ys = cc in
    let pages : x.text_pages ≡ y.text_pages = sym (ap text_in (text_hit x.image x xs refl)) ∙ h x.image ∙ ap text_in (text_hit x.image y ys (sym a)) in
    let gone : numbered image_number x.image xs ≡ None = text_absent x.image xs d.0 in
    let lost : numbered image_number x.image ys ≡ None = text_absent x.image ys (subst (IsAbsent x.image) b d.0) in
    let tail : xs ≡ ys = texts_ext xs ys b d.1 (λ n. elim (cases_eq x.image n) [
      | inl k ↦ subst (λ (m : ℕ). text_in (numbered image_number m xs) ≡ text_in (numbered image_number m ys)) k (ap text_in gone ∙ sym (ap text_in lost))
      | inr k ↦ sym (ap text_in (text_miss n x xs k)) ∙ h n ∙ ap text_in (text_miss n y ys (λ m. k (a ∙ m)))
    ]) in
    ap (λ (n : ℕ). record x { image = n } ∷ xs) a ∙ ap (λ (l : List Slot). record y { text_pages = l } ∷ xs) pages ∙ ap (λ (zs : List TextPages). y ∷ zs) tail

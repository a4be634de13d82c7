-- What holds of the entries of all spaces is kept where a page takes its place.
use Rattle.std.proofs.Common.{◌≡◌, inl, inr, ℕ, Bool, true, false, List, [], ◌∷◌, map, Option, Some, None, refl, sym, ap, ◌∙◌, subst}
use Rattle.vm_facts.specs.declared.page.Page.{Page}
use Rattle.vm_facts.specs.declared.page.Page.TheVariants.{Data, Stack, Text}
use Rattle.vax_pte.specs.declared.Place.{Place}
use Rattle.vax_pte.specs.declared.Place.TheVariants as places
use Rattle.aout_image.specs.declared.Image.{Image}
use Rattle.space_map.specs.Space.{Places, place_in}
use Rattle.text_table.specs.Texts.{is_saved, text_numbered, Text as SharedText}
use Rattle.kernel_laws.proofs.Local.{none_some}
use Rattle.std.proofs.lemmas.Option.{same_Some}
use Rattle.kernel_laws.proofs.PageLawsListsPages.{page_cases}
use Rattle.kernel_tables.specs.Shown.{entry_in, placed, placed_by}
use Rattle.kernel_tables.specs.Alike.{EachSpace, IsLikeFirst, AreAlike, IsFilledAt, IsFilled, facts_in}
use Rattle.kernel_tables.specs.Steps.{left_text, left_place, evicted}
use Rattle.kernel_tables.proofs.Entries.{placed_same, placed_none, placed_other, entry_same, entry_other}

like_one : (ss : List Places) (s : Places) (q : Page) (place : Place) → IsLikeFirst ss s → IsLikeFirst (map (placed q place) ss) (placed q place s)
like_one ss s q place h i v x e = elim (page_cases (Text i v) q) [
  | inl m ↦ go (place_in s q) refl m
  | inr n ↦ entry_other ss q (Text i v) place n ∙ h i v x (sym (placed_other s q (Text i v) place n) ∙ e)
]
  where
    go : (o : Option Place) → place_in s q ≡ o → Text i v ≡ q → entry_in (map (placed q place) ss) (Text i v) ≡ Some x
    go None k m = none_some x (sym k ∙ sym (ap (λ (r : Page). place_in s r) m) ∙ sym (ap (λ (y : Places). place_in y (Text i v)) (placed_none s q place k)) ∙ e)
    go (Some was) k m =
        let first : entry_in ss q ≡ Some was = subst (λ (r : Page). entry_in ss r ≡ Some was) m (h i v was (ap (place_in s) m ∙ k)) in
        let same : place ≡ x = same_Some place x (sym (placed_same s q place was k) ∙ sym (ap (place_in (placed q place s)) m) ∙ e) in
        ap (entry_in (map (placed q place) ss)) m ∙ entry_same ss q place was first ∙ ap (λ (y : Place). Some y) same

like_each : (ss rs : List Places) (q : Page) (place : Place) → EachSpace (IsLikeFirst ss) rs
    → EachSpace (IsLikeFirst (map (placed q place) ss)) (map (placed q place) rs)
like_each ss [] q place h = tt
like_each ss (r ∷ rs) q place h = (like_one ss r q place h.0, like_each ss rs q place h.1)

pub placed_alike : (ss : List Places) (q : Page) (place : Place) → AreAlike ss → AreAlike (map (placed q place) ss)
placed_alike ss q place h = like_each ss ss q place h

pub evicted_alike : (texts : List SharedText) (page : Option Page) (ss : List Places) → AreAlike ss → AreAlike (evicted texts page ss)
evicted_alike texts None ss h = h
evicted_alike texts (Some q) ss h = placed_alike ss q (left_place texts q) h

-- a place that says that the page is in the file, of text alone
abbrev pub IsTextNumber : Page → ℕ → Type 0
IsTextNumber (Text image v) w = w ≡ v
IsTextNumber _ w = ⊥

abbrev pub FitsPage : Page → Place → Type 0
FitsPage q place = (w : ℕ) → place ≡ places.Image w → IsTextNumber q w

filled_text : (s : Places) (q : Page) (w : ℕ) → IsTextNumber q w → IsFilledAt s q w
filled_text s (Text i v) w h = h
filled_text s _ w h = absurd h

same_facts : (s : Places) (q r : Page) (place : Place) (w : ℕ) → IsFilledAt s r w → IsFilledAt (placed q place s) r w
same_facts s q r place w h = go (place_in s q) q r h
  where
    go : (o : Option Place) (p r : Page) → IsFilledAt s r w → IsFilledAt (placed_by o p place s) r w
    go None p r h = h
    go (Some was) (Data n v) (Data m k) h = h
    go (Some was) (Stack n v) (Data m k) h = h
    go (Some was) (Text n v) (Data m k) h = h
    go (Some was) p (Stack m k) h = h
    go (Some was) p (Text m k) h = h

placed_facts : (s : Places) (q : Page) (place : Place) (facts : List Image) → facts_in 1 s.image facts ≡ Some s.facts
    → facts_in 1 (placed q place s).image facts ≡ Some (placed q place s).facts
placed_facts s q place facts h = go (place_in s q) q
  where
    go : (o : Option Place) (p : Page) → facts_in 1 (placed_by o p place s).image facts ≡ Some (placed_by o p place s).facts
    go None p = h
    go (Some was) (Data n v) = h
    go (Some was) (Stack n v) = h
    go (Some was) (Text n v) = h

filled_one : (facts : List Image) (s : Places) (q : Page) (place : Place) → FitsPage q place → IsFilled facts s → IsFilled facts (placed q place s)
filled_one facts s q place f h = record {
  facts_are = placed_facts s q place facts h.facts_are;
  entries = λ r w e. elim (page_cases r q) [
    | inl m ↦ go r w e (place_in s q) refl m
    | inr n ↦ same_facts s q r place w (h.entries r w (sym (placed_other s q r place n) ∙ e))
  ];
}
  where
    go : (r : Page) (w : ℕ) → place_in (placed q place s) r ≡ Some (places.Image w) → (o : Option Place) → place_in s q ≡ o → r ≡ q → IsFilledAt (placed q place s) r w
    go r w e None k m = none_some (places.Image w) (sym k ∙ sym (ap (place_in s) m) ∙ sym (ap (λ (y : Places). place_in y r) (placed_none s q place k)) ∙ e)
    go r w e (Some was) k m =
        let same : place ≡ places.Image w = same_Some place (places.Image w) (sym (placed_same s q place was k) ∙ sym (ap (place_in (placed q place s)) m) ∙ e) in
        filled_text (placed q place s) r w (subst (λ (p : Page). IsTextNumber p w) (sym m) (f w same))

pub placed_filled : (facts : List Image) (ss : List Places) (q : Page) (place : Place) → FitsPage q place → EachSpace (IsFilled facts) ss
    → EachSpace (IsFilled facts) (map (placed q place) ss)
placed_filled facts [] q place f h = tt
placed_filled facts (s ∷ ss) q place f h = (filled_one facts s q place f h.0, placed_filled facts ss q place f h.1)

pub frame_fits : (q : Page) (f : ℕ) (valid changed : Bool) → FitsPage q (places.Frame f valid changed)
frame_fits q f valid changed w e = absurd cc

left_fits : (texts : List SharedText) (q : Page) → FitsPage q (left_place texts q)
left_fits texts (Text i v) w e = go (is_saved (text_numbered texts i) v) e
  where
    go : (b : Bool) → left_text b v ≡ places.Image w → w ≡ v
    go true k = absurd cc
    go false k = cc
left_fits texts _ w e = absurd cc

pub evicted_filled : (facts : List Image) (texts : List SharedText) (page : Option Page) (ss : List Places) → EachSpace (IsFilled facts) ss
    → EachSpace (IsFilled facts) (evicted texts page ss)
evicted_filled facts texts None ss h = h
evicted_filled facts texts (Some q) ss h = placed_filled facts ss q (left_place texts q) (left_fits texts q) h

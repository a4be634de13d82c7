-- The images that a machine has, as its process reads of them.
use Rattle.std.proofs.Common.{◌≡◌, ℕ, zero, suc, ◌+◌, ◌^◌, ◌<◌, ◌≤◌, List, [], ◌∷◌, length, map, Some, sym, ap, ◌∙◌, subst, arith}
use Rattle.std.specs.Prelude.{slice_get}
use Rattle.std.proofs.lemmas.List.{length-map}
use Rattle.std.proofs.lemmas.Option.{same_Some}
use Rattle.aout_image.specs.declared.Image.{Image}
use Rattle.aout_image.specs.Image.{IsSound}
use Rattle.flat_state.specs.Flat.{NamedImage}
use Rattle.machine_state.specs.Going.{CanGoOn}
use Rattle.machine_state.specs.Machine.{Standing, image_shown}
use Rattle.machine_state.specs.Sourced.{ImageNamed}
use Rattle.machine_state.specs.Named.{Named}
use Rattle.machine_state.specs.Applying.{facts_named}
use Rattle.machine_state.specs.New.{AreSound}
use Rattle.call_reads.specs.Reading.{AreNamed, AreShown, EntriesFit}

all_shown : (known : List NamedImage) (shown : List Named) → AreNamed known (map image_shown shown) → AreShown known shown
all_shown [] [] h = tt
all_shown [] (s ∷ shown) h = absurd h
all_shown (n ∷ known) [] h = absurd h
all_shown (n ∷ known) (s ∷ shown) h = (h.0, h.1, all_shown known shown h.2)

pub shown_by : (known : List NamedImage) (m n : Standing) (shown : List Named) → n ≡ m → map image_shown shown ≡ n.images
    → AreNamed known m.images → AreShown known shown
shown_by known m n shown same are named = all_shown known shown (subst (AreNamed known) (sym (are ∙ ap (λ (s : Standing). s.images) same)) named)

fits : (i : Image) → IsSound i → i.entry + 2 < 2 ^ 32
fits i s = let k = s.starts_inside in let t = s.text_fits in let d = s.data_fits in omega arith

entries_fit : (shown : List Named) → AreSound (facts_named (map image_shown shown)) → (place : ℕ) (s : Named) → slice_get shown place ≡ Some s
    → s.facts.entry + 2 < 2 ^ 32
entries_fit [] sound place s e = absurd cc
entries_fit (x ∷ shown) sound zero s e = subst (λ (y : Named). y.facts.entry + 2 < 2 ^ 32) (same_Some x s e) (fits x.facts sound.0)
entries_fit (x ∷ shown) sound (suc place) s e = entries_fit shown sound.1 place s e

-- those of a machine that can go on are few, and fit
pub few_shown : (m n : Standing) (shown : List Named) → n ≡ m → map image_shown shown ≡ n.images → CanGoOn m → length shown ≤ 16
few_shown m n shown same are ready =
    let a = ap (λ (ns : List ImageNamed). length ns) (are ∙ ap (λ (s : Standing). s.images) same) in
    let z = length-map shown image_shown in
    let f = ready.running.few_images in
    omega (arith, a, z, f)

pub all_fit : (m n : Standing) (shown : List Named) → n ≡ m → map image_shown shown ≡ n.images → CanGoOn m → EntriesFit shown
all_fit m n shown same are ready =
    entries_fit shown (subst (λ (ns : List ImageNamed). AreSound (facts_named ns)) (sym (are ∙ ap (λ (s : Standing). s.images) same)) ready.running.images)

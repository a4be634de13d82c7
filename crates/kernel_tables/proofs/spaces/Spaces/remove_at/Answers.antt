use Rattle.std.proofs.Common.{◌<◌, ℕ, List, Some, length, option_map, slice_get, sym, ap, ◌∙◌, subst}
use Rattle.aout_image.specs.Image.{text_pages_of}
use Rattle.space_map.specs.Space.{Places}
use Rattle.kernel_tables.specs.Rising.{sids_of, AreRising, StandsAt}
use Rattle.kernel_tables.specs.Gone.{without_space}
use Rattle.kernel_tables.proofs.Removed.{removed_is, removed_rises, at_place}
use Rattle.kernel_tables.proofs.spaces.Spaces.remove_at.Goals as goal

pub invariant_of-self : goal.invariant_of-self
invariant_of-self c =
    let maps : List Places = c.self.inside.maps.items in
    let l = subst (λ (ss : List Places). c.args.index < length ss) (sym c.self.view_is) c.requires in
    subst (λ (ss : List Places). AreRising (sids_of ss)) (sym c.remove-space.ensures.items) (removed_rises maps c.args.index c.remove-space.result l c.self.invariant)

pub returns : goal.returns
returns c =
    let l = subst (λ (ss : List Places). c.args.index < length ss) (sym c.self.view_is) c.requires in
    let there = at_place c.self.inside.maps.items c.args.index c.remove-space.result l ∙ ap (λ (s : Places). Some s) (sym c.remove-space.ensures.value) in
    record {
      gone =
          λ sid h.
          let at = subst (λ (ss : List Places). StandsAt ss sid c.args.index) (sym c.self.view_is) h in
          c.remove-space.ensures.items ∙ removed_is c.self.inside.maps.items sid c.args.index c.self.invariant at.number ∙ ap (without_space sid) c.self.view_is;
      image = ap (λ (n : ℕ). Some n) c.image.ensures ∙ sym (ap (option_map (λ (s : Places). s.image)) (ap (λ (ss : List Places). slice_get ss c.args.index) (sym c.self.view_is) ∙ there));
      pages = ap (λ (n : ℕ). Some n) c.text_pages.ensures.of_image
          ∙ sym (ap (option_map (λ (s : Places). text_pages_of s.facts)) (ap (λ (ss : List Places). slice_get ss c.args.index) (sym c.self.view_is) ∙ there));
    }

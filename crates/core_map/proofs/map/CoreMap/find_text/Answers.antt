use Rattle.std.proofs.Common.{◌≡◌, ◌≢◌, ℕ, List, sym, ap, subst, ◌∙◌, Option, Some, None}
use Rattle.std.specs.Prelude.{IfNone}
use Rattle.vm_facts.specs.declared.page.Page.TheVariants.{Text}
use Rattle.core_map.specs.declared.text_index.TextKey.{TextKey}
use Rattle.core_map.specs.Chains.{key_at}
use Rattle.core_map.specs.Slots.{slot_at, slot_page, key_of}
use Rattle.core_map.specs.Frames.{Frames, HoldsNot}
use Rattle.core_map.proofs.SlotLemmas.{key_at_map}
use Rattle.core_map.proofs.map.CoreMap.find_text.Goals as goal

pub returns-clause-none : goal.returns-clause-none
returns-clause-none c = none c.find.result c.find.ensures.none where
  none : (r : Option ℕ) → IfNone r ((f : ℕ) → key_at c.self.inside.text f ≢ Some (record { image = c.args.image; v = c.args.v })) → IfNone r (HoldsNot c.args.self.now (Text c.args.image c.args.v))
  none (Some f) h = tt
  none None h = λ f e.
      let a = c.self.inside in
      let page : slot_page (slot_at a.slots.items f) ≡ Some (Text c.args.image c.args.v) =
      subst (λ (o : Frames). slot_page (slot_at o.slots f) ≡ Some (Text c.args.image c.args.v)) (sym c.self.view_is) e in
      h f (ap (λ (t : List (Option TextKey)). key_at t f) c.self.invariant.text ∙ key_at_map a.slots.items f ∙ ap key_of page)

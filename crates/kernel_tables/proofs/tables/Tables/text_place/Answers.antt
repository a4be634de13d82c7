use Rattle.std.proofs.Common.{Option, sym, ap, ◌∙◌}
use Rattle.vm_facts.specs.declared.page.Page.TheVariants.{Text}
use Rattle.vax_pte.specs.declared.Place.{Place}
use Rattle.kernel_tables.specs.View.{text_place_by}
use Rattle.kernel_tables.proofs.PlaceStates.{cached_found, cached_none}
use Rattle.kernel_tables.proofs.tables.Tables.text_place.Goals as goal

pub returns-in-Some-find_text : goal.returns-in-Some-find_text
returns-in-Some-find_text c =
    sym (ap (λ (o : Option Place). text_place_by o c.args.self.now.core.slots (Text c.args.image c.args.v) c.args.v) (sym c.entry.ensures ∙ c.in_default.is)
    ∙ cached_found c.args.self.now.core.free c.args.self.now.core.slots c.in-Some-find_text.f (Text c.args.image c.args.v) c.args.v c.find_text.ensures.sound c.in-Some-find_text.ensures.found)

pub returns-in-None : goal.returns-in-None
returns-in-None c =
    sym (ap (λ (o : Option Place). text_place_by o c.args.self.now.core.slots (Text c.args.image c.args.v) c.args.v) (sym c.entry.ensures ∙ c.in_default.is)
    ∙ cached_none c.args.self.now.core.slots (Text c.args.image c.args.v) c.args.v c.in-None.ensures.none)

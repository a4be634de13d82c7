use Rattle.std.proofs.Common.{◌≡◌, ℕ, Bool, false, IsTrue, Option, map, refl, sym, ap, ◌∙◌, subst, arith}
use Rattle.vax_pte.specs.declared.Place.{Place}
use Rattle.vax_pte.specs.declared.Place.TheVariants as places
use Rattle.kernel_tables.specs.declared.tables.Tables.{Tables}
use Rattle.kernel_tables.specs.Shown.{is_frame, frame_named, changed_named, placed}
use Rattle.kernel_tables.specs.Machine.{lists_of}
use Rattle.table_steps.proofs.Parting.{valid_resides, expired_moves}
use Rattle.table_steps.proofs.parts.expire_page.Goals as goal

pub frame_of-frame-requires : goal.frame_of-frame-requires
frame_of-frame-requires c =
    let r = valid_resides (lists_of c.args.tables.now) c.args.page c.requires.known c.requires.can in
    subst (λ (o : Option Place). IsTrue (is_frame o)) (sym r.entry) refl

pub set_places-requires : goal.set_places-requires
set_places-requires c =
    let r = valid_resides (lists_of c.args.tables.now) c.args.page c.requires.known c.requires.can in
    let frame : c.frame_of-frame.result.0 ≡ c.requires.can.frame = c.frame_of-frame.ensures.frame ∙ ap frame_named r.entry in
    let a = r.below in
    let b = c.requires.known.tied.few_frames in
    omega (arith, frame, a, b)

pub returns : goal.returns
returns c =
    let t : Tables = c.args.tables.now in
    let r = valid_resides (lists_of t) c.args.page c.requires.known c.requires.can in
    let frame : c.frame_of-frame.result.0 ≡ c.requires.can.frame = c.frame_of-frame.ensures.frame ∙ ap frame_named r.entry in
    let changed : c.frame_of-frame.result.1 ≡ r.changed = c.frame_of-frame.ensures.changed ∙ ap changed_named r.entry in
    expired_moves t (record t { spaces = c.set_places.new.self }) c.args.page c.requires.known c.requires.can
    (c.set_places.ensures
    ∙ ap (λ (f : ℕ). map (placed c.args.page (places.Frame f false c.frame_of-frame.result.1)) t.spaces) frame
    ∙ ap (λ (b : Bool). map (placed c.args.page (places.Frame c.requires.can.frame false b)) t.spaces) changed) refl

use Rattle.std.proofs.Common.{◌+◌, List, ℕ, Ok, Err, sym, ap, ◌∙◌, subst}
use Rattle.io_edge.specs.FileHolding.{NamedFile}
use Rattle.command_edge.specs.declared.answers.Loaded.{Loaded}
use Rattle.command_edge.specs.declared.answers.Unread.TheVariants as unreads
use Rattle.command_edge.specs.Told.{image_told}
use Rattle.command_edge.specs.declared.fault.Fault.{Fault}
use Rattle.command_edge.specs.declared.fault.Fault.TheVariants.{NoMemory}
use Rattle.source_commands.specs.Listing.{IsListing, code_at}
use Rattle.command_edge.specs.Command.{Faults, FaultCounted, Made}
use Rattle.command_edge.proofs.Counting.{unloaded_counted}
use Rattle.source_commands.specs.Command.{EndsListing}
use Rattle.command_edge.proofs.Makings.{made_by, made_nothing}
use Rattle.source_commands.proofs.Makings.{unread_image}
use Rattle.source_commands.proofs.listing.listing_from.Goals as goal

pub returns-in-Err-clause-made : goal.returns-in-Err-clause-made
returns-in-Err-clause-made g c =
    let f : Faults = record {
      open_before = g.F.Files.open_faults c.args.files.now;
      open_after = g.F.Files.open_faults c.load_image.new.files;
      page_before = g.F.Files.page_faults c.args.files.now;
      page_after = g.F.Files.page_faults c.load_image.new.files;
    } in
    subst (λ (e : Fault). Made (EndsListing c.args.name.now) (λ (list : List NamedFile). image_told list c.args.name.now) (g.F.Files.holds c.args.files.now) f (Err e)) (sym c.of_unread.ensures)
    (unread_image {A = Loaded} (λ loaded. (loaded.image, loaded.bytes.items)) c.args.name (λ (list : List NamedFile). image_told list c.args.name.now)
    (g.F.Files.holds c.args.files.now) f c.in-Err.unread
    c.in-Err.ensures.answers c.in-Err.ensures.faults c.in-Err.ensures.order)

pub returns-in-Err-clause-counted : goal.returns-in-Err-clause-counted
returns-in-Err-clause-counted g c =
    let f : Faults = record {
      open_before = g.F.Files.open_faults c.args.files.now;
      open_after = g.F.Files.open_faults c.load_image.new.files;
      page_before = g.F.Files.page_faults c.args.files.now;
      page_after = g.F.Files.page_faults c.load_image.new.files;
    } in
    subst (λ (e : Fault). FaultCounted e f) (sym c.of_unread.ensures) (unloaded_counted Loaded c.args.name c.in-Err.unread f c.in-Err.ensures.faults)

pub returns-in-Ok-listing_in-clause-made : goal.returns-in-Ok-listing_in-clause-made
returns-in-Ok-listing_in-clause-made g c =
    let image = c.in-Ok.loaded.image in
    made_by (EndsListing c.args.name.now) (λ (list : List NamedFile). image_told list c.args.name.now) (g.F.Files.holds c.args.files.now) _ (Ok c.in-Ok-listing_in.listing.items)
    (Ok (image, c.in-Ok.loaded.bytes.items))
    c.in-Ok.ensures.answers (
      record { open_same = c.in-Ok.ensures.faults.0; page_same = c.in-Ok.ensures.faults.1 },
      subst (λ (file : List ℕ). IsListing (image.entry + 2) (code_at image file (image.entry + 2)) c.in-Ok-listing_in.listing.items)
          c.as_slice.ensures.value c.in-Ok-listing_in.ensures,
    )

pub returns-clause-made : goal.returns-clause-made
returns-clause-made g c =
    made_nothing (EndsListing c.args.name.now) (Err unreads.NoMemory) (λ (list : List NamedFile). image_told list c.args.name.now) (g.F.Files.holds c.args.files.now) _ (Err NoMemory) (λ read. tt)

use Rattle.std.proofs.Common.{◌≡◌, ◌<◌, List, ◌∷◌, length, map, sym, ap, subst, arith}
use Rattle.transfer_ring.specs.declared.transfer.Inbound.{Inbound}
use Rattle.page_model.specs.Moves.{land_all}
use Rattle.page_model.specs.Placement.{Reads}
use Rattle.kernel_tables.specs.View.{in_part, inbound_flown, transfer_shown, placement_of}
use Rattle.kernel_tables.specs.Machine.{lists_of}
use Rattle.kernel_tables.specs.Steps.{source_by}
use Rattle.kernel_tables.specs.Done.{AreWholePages}
use Rattle.kernel_tables.specs.Moves.{LandedAll, closing_in}
use Rattle.table_steps.proofs.Landings.{MayLand, first_taken, may_read, reads_step, lands_place, lands_all}
use Rattle.table_steps.proofs.landing.+land_reads.Goals as goal

pub land_in-requires : goal.land_in-requires
land_in-requires t c =
    let some : 0 < length c.args.parts.now.items = omega (arith, c.is_empty.ensures, c.if-is_empty.ensures, c.remove-part.ensures.len) in
    let e : c.args.parts.now.items ≡ c.remove-part.result ∷ c.remove-part.new.self.items =
    first_taken c.args.parts.now.items c.remove-part.new.self.items c.remove-part.result some c.remove-part.ensures.value c.remove-part.ensures.by_index.2 in
    let m : MayLand c.args.tables.now c.remove-part.result.page c.remove-part.result.token.number =
    may_read c.args.tables.now c.args.from_file c.args.demanded c.args.parts.now.items c.remove-part.new.self.items c.remove-part.result e c.requires in
    record {
      away = m.away;
      not_held = m.not_held;
      small = m.small;
      texts = m.texts;
    }

pub land_reads-requires : goal.land_reads-requires
land_reads-requires t c =
    let some : 0 < length c.args.parts.now.items = omega (arith, c.is_empty.ensures, c.if-is_empty.ensures, c.remove-part.ensures.len) in
    let e : c.args.parts.now.items ≡ c.remove-part.result ∷ c.remove-part.new.self.items =
    first_taken c.args.parts.now.items c.remove-part.new.self.items c.remove-part.result some c.remove-part.ensures.value c.remove-part.ensures.by_index.2 in
    let l = reads_step c.args.tables.now c.land_in.new.tables c.args.from_file c.args.demanded c.args.parts.now.items c.remove-part.new.self.items c.remove-part.result e c.requires
    c.land_in.ensures.landed c.stands.ensures in
    (omega (arith, ap length e), l.known)

pub returns-clause-place : goal.returns-clause-place
returns-clause-place t c =
    let some : 0 < length c.args.parts.now.items = omega (arith, c.is_empty.ensures, c.if-is_empty.ensures, c.remove-part.ensures.len) in
    let e : c.args.parts.now.items ≡ c.remove-part.result ∷ c.remove-part.new.self.items =
    first_taken c.args.parts.now.items c.remove-part.new.self.items c.remove-part.result some c.remove-part.ensures.value c.remove-part.ensures.by_index.2 in
    let l = reads_step c.args.tables.now c.land_in.new.tables c.args.from_file c.args.demanded c.args.parts.now.items c.remove-part.new.self.items c.remove-part.result e c.requires
    c.land_in.ensures.landed c.stands.ensures in
    subst (λ (ys : List Inbound). placement_of (lists_of c.land_reads.new.tables)
    ≡ land_all (record (placement_of (closing_in c.args.tables.now c.args.from_file c.args.demanded ys)) { transfers = map transfer_shown c.args.tables.now.ring })
    (Reads (source_by c.args.from_file) c.args.demanded) (map in_part ys)) (sym e)
    (lands_place c.args.tables.now c.land_in.new.tables c.land_reads.new.tables (Reads (source_by c.args.from_file) c.args.demanded) (in_part c.remove-part.result)
    (map in_part c.remove-part.new.self.items) (inbound_flown c.remove-part.result) (map inbound_flown c.remove-part.new.self.items) l c.land_reads.ensures.place)

pub returns-clause-all : goal.returns-clause-all
returns-clause-all t c =
    let some : 0 < length c.args.parts.now.items = omega (arith, c.is_empty.ensures, c.if-is_empty.ensures, c.remove-part.ensures.len) in
    let e : c.args.parts.now.items ≡ c.remove-part.result ∷ c.remove-part.new.self.items =
    first_taken c.args.parts.now.items c.remove-part.new.self.items c.remove-part.result some c.remove-part.ensures.value c.remove-part.ensures.by_index.2 in
    let l = reads_step c.args.tables.now c.land_in.new.tables c.args.from_file c.args.demanded c.args.parts.now.items c.remove-part.new.self.items c.remove-part.result e c.requires
    c.land_in.ensures.landed c.stands.ensures in
    subst (λ (ys : List Inbound). LandedAll c.args.tables.now c.land_reads.new.tables (closing_in c.args.tables.now c.args.from_file c.args.demanded ys)) (sym e)
    (lands_all c.args.tables.now c.land_in.new.tables c.land_reads.new.tables (Reads (source_by c.args.from_file) c.args.demanded) (in_part c.remove-part.result)
    (map in_part c.remove-part.new.self.items) (inbound_flown c.remove-part.result) (map inbound_flown c.remove-part.new.self.items) l c.land_reads.ensures.all)

pub returns-clause-whole : goal.returns-clause-whole
returns-clause-whole t c =
    let some : 0 < length c.args.parts.now.items = omega (arith, c.is_empty.ensures, c.if-is_empty.ensures, c.remove-part.ensures.len) in
    let e : c.args.parts.now.items ≡ c.remove-part.result ∷ c.remove-part.new.self.items =
    first_taken c.args.parts.now.items c.remove-part.new.self.items c.remove-part.result some c.remove-part.ensures.value c.remove-part.ensures.by_index.2 in
    subst AreWholePages (sym e) (c.land_in.ensures.whole, c.land_reads.ensures.whole)

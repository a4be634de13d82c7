use Rattle.std.proofs.Common.{◌≡◌, ◌<◌, List, ◌∷◌, length, map, sym, ap, subst, arith}
use Rattle.transfer_ring.specs.declared.transfer.Outbound.{Outbound}
use Rattle.page_model.specs.Moves.{land_all}
use Rattle.page_model.specs.Placement.{Writes}
use Rattle.kernel_tables.specs.View.{out_part, outbound_flown, transfer_shown, placement_of}
use Rattle.kernel_tables.specs.Machine.{lists_of}
use Rattle.kernel_tables.specs.Moves.{LandedAll, closing_out}
use Rattle.table_steps.proofs.Landings.{MayLand, first_taken, may_write, writes_step, lands_place, lands_all}
use Rattle.table_steps.proofs.landing.+land_writes.Goals as goal

pub land_out-requires : goal.land_out-requires
land_out-requires t c =
    let some : 0 < length c.args.parts.now.items = omega (arith, c.is_empty.ensures, c.if-is_empty.ensures, c.remove-part.ensures.len) in
    let e : c.args.parts.now.items ≡ c.remove-part.result ∷ c.remove-part.new.self.items =
    first_taken c.args.parts.now.items c.remove-part.new.self.items c.remove-part.result some c.remove-part.ensures.value c.remove-part.ensures.by_index.2 in
    let m : MayLand c.args.tables.now c.remove-part.result.page c.remove-part.result.token.number =
    may_write c.args.tables.now c.args.parts.now.items c.remove-part.new.self.items c.remove-part.result e c.requires in
    record {
      away = m.away;
      not_held = m.not_held;
      small = m.small;
      texts = m.texts;
    }

pub land_writes-requires : goal.land_writes-requires
land_writes-requires t c =
    let some : 0 < length c.args.parts.now.items = omega (arith, c.is_empty.ensures, c.if-is_empty.ensures, c.remove-part.ensures.len) in
    let e : c.args.parts.now.items ≡ c.remove-part.result ∷ c.remove-part.new.self.items =
    first_taken c.args.parts.now.items c.remove-part.new.self.items c.remove-part.result some c.remove-part.ensures.value c.remove-part.ensures.by_index.2 in
    let l =
    writes_step c.args.tables.now c.land_out.new.tables c.args.parts.now.items c.remove-part.new.self.items c.remove-part.result e c.requires c.land_out.ensures c.stands.ensures in
    (omega (arith, ap length e), l.known)

pub returns-clause-place : goal.returns-clause-place
returns-clause-place t c =
    let some : 0 < length c.args.parts.now.items = omega (arith, c.is_empty.ensures, c.if-is_empty.ensures, c.remove-part.ensures.len) in
    let e : c.args.parts.now.items ≡ c.remove-part.result ∷ c.remove-part.new.self.items =
    first_taken c.args.parts.now.items c.remove-part.new.self.items c.remove-part.result some c.remove-part.ensures.value c.remove-part.ensures.by_index.2 in
    let l =
    writes_step c.args.tables.now c.land_out.new.tables c.args.parts.now.items c.remove-part.new.self.items c.remove-part.result e c.requires c.land_out.ensures c.stands.ensures in
    subst (λ (ys : List Outbound). placement_of (lists_of c.land_writes.new.tables)
    ≡ land_all (record (placement_of (closing_out c.args.tables.now ys)) { transfers = map transfer_shown c.args.tables.now.ring }) Writes (map out_part ys)) (sym e)
    (lands_place c.args.tables.now c.land_out.new.tables c.land_writes.new.tables Writes (out_part c.remove-part.result) (map out_part c.remove-part.new.self.items)
    (outbound_flown c.remove-part.result) (map outbound_flown c.remove-part.new.self.items) l c.land_writes.ensures.place)

pub returns-clause-all : goal.returns-clause-all
returns-clause-all t c =
    let some : 0 < length c.args.parts.now.items = omega (arith, c.is_empty.ensures, c.if-is_empty.ensures, c.remove-part.ensures.len) in
    let e : c.args.parts.now.items ≡ c.remove-part.result ∷ c.remove-part.new.self.items =
    first_taken c.args.parts.now.items c.remove-part.new.self.items c.remove-part.result some c.remove-part.ensures.value c.remove-part.ensures.by_index.2 in
    let l =
    writes_step c.args.tables.now c.land_out.new.tables c.args.parts.now.items c.remove-part.new.self.items c.remove-part.result e c.requires c.land_out.ensures c.stands.ensures in
    subst (λ (ys : List Outbound). LandedAll c.args.tables.now c.land_writes.new.tables (closing_out c.args.tables.now ys)) (sym e)
    (lands_all c.args.tables.now c.land_out.new.tables c.land_writes.new.tables Writes (out_part c.remove-part.result) (map out_part c.remove-part.new.self.items) (outbound_flown c.remove-part.result)
    (map outbound_flown c.remove-part.new.self.items) l c.land_writes.ensures.all)

use Rattle.std.proofs.Common.{rules, ◌≡◌, ◌∙◌, refl, sym, arith}
use Rattle.io_edge.specs.Striping.{device_of}
use Rattle.io_edge.proofs.Stripes.{place_of-even}
use Rattle.io_edge.proofs.StripeWrites.{not_even, inside_even, inside_odd}
use Rattle.io_edge.proofs.BeyondPair.{reads_beyond}
use Rattle.io_edge.proofs.PairCalls.{adds_none, adds_on_one, adds_on_zero, on_done, pair_reads_even, pair_reads_odd, pair_asks_even, pair_asks_odd, pair_bytes_even, pair_bytes_odd}
use Rattle.io_edge.proofs.swap_pair.SwapPairSwapDev.read.Goals as goal

pub read-moved-requires-clause-even : goal.read-moved-requires-clause-even
read-moved-requires-clause-even g c = omega (arith, place_of-even c.args.block c.requires.even)

pub read-moved-requires-clause-inside : goal.read-moved-requires-clause-inside
read-moved-requires-clause-inside g c =
    omega (arith, inside_even c.args.block _ _ c.requires.even c.requires.inside (sym c.device_number.ensures ∙ c.if-device_number-eq0.true))

pub read-moved-requires-else-device_number-eq0-clause-even :
    goal.read-moved-requires-else-device_number-eq0-clause-even
read-moved-requires-else-device_number-eq0-clause-even g c = omega (arith, place_of-even c.args.block c.requires.even)

pub read-moved-requires-else-device_number-eq0-clause-inside :
    goal.read-moved-requires-else-device_number-eq0-clause-inside
read-moved-requires-else-device_number-eq0-clause-inside g c =
    omega (arith, inside_odd c.args.block _ _ c.requires.even c.requires.inside (not_even c.args.block (λ on. c.if-device_number-eq0.false (c.device_number.ensures ∙ on))))

pub returns-then-device_number-eq0-clause-done : goal.returns-then-device_number-eq0-clause-done
returns-then-device_number-eq0-clause-done g c =
    let on : device_of c.args.block ≡ 0 = sym c.device_number.ensures ∙ c.if-device_number-eq0.true in
    on_done c.read-moved.result _ _
    (pair_reads_even _ _ c.place_on_device-place.result c.args.block _ _ c.read-moved.new.buf
    (g.met.D.SwapDev.whole c.args.self.now.zero.now) (g.met.E.SwapDev.whole c.args.self.now.one.now)
    c.place_on_device-place.ensures on c.requires.even c.requires.inside)
    c.read-moved.ensures.done

pub returns-else-device_number-eq0-clause-done : goal.returns-else-device_number-eq0-clause-done
returns-else-device_number-eq0-clause-done g c =
    let on : device_of c.args.block ≡ 1 = not_even c.args.block (λ on. c.if-device_number-eq0.false (c.device_number.ensures ∙ on)) in
    on_done c.read-moved-else-device_number-eq0.result _ _
    (pair_reads_odd _ _ c.place_on_device-place.result c.args.block _ _ c.read-moved-else-device_number-eq0.new.buf
    (g.met.D.SwapDev.whole c.args.self.now.zero.now) (g.met.E.SwapDev.whole c.args.self.now.one.now)
    c.place_on_device-place.ensures on c.requires.even c.requires.inside)
    c.read-moved-else-device_number-eq0.ensures.done

pub returns-then-device_number-eq0-clause-image : goal.returns-then-device_number-eq0-clause-image
returns-then-device_number-eq0-clause-image g c =
    let on : device_of c.args.block ≡ 0 = sym c.device_number.ensures ∙ c.if-device_number-eq0.true in
    pair_asks_even _ _ _ c.place_on_device-place.result c.args.block _ _ _ c.read-moved.ensures.blocks c.place_on_device-place.ensures on c.read-moved.ensures.image

pub returns-else-device_number-eq0-clause-image : goal.returns-else-device_number-eq0-clause-image
returns-else-device_number-eq0-clause-image g c =
    let on : device_of c.args.block ≡ 1 = not_even c.args.block (λ on. c.if-device_number-eq0.false (c.device_number.ensures ∙ on)) in
    let read = c.read-moved-else-device_number-eq0.ensures in
    pair_asks_odd _ _ _ c.place_on_device-place.result c.args.block _ _ _ read.blocks c.place_on_device-place.ensures on read.image

pub returns-then-device_number-eq0-clause-bytes : goal.returns-then-device_number-eq0-clause-bytes
returns-then-device_number-eq0-clause-bytes g c =
    let on : device_of c.args.block ≡ 0 = sym c.device_number.ensures ∙ c.if-device_number-eq0.true in
    pair_bytes_even _ _ _ c.place_on_device-place.result c.args.block _ _ _ c.read-moved.ensures.blocks c.place_on_device-place.ensures on c.read-moved.ensures.image

pub returns-else-device_number-eq0-clause-bytes : goal.returns-else-device_number-eq0-clause-bytes
returns-else-device_number-eq0-clause-bytes g c =
    let on : device_of c.args.block ≡ 1 = not_even c.args.block (λ on. c.if-device_number-eq0.false (c.device_number.ensures ∙ on)) in
    let read = c.read-moved-else-device_number-eq0.ensures in
    pair_bytes_odd _ _ _ c.place_on_device-place.result c.args.block _ _ _ read.blocks c.place_on_device-place.ensures on read.image

pub returns-then-device_number-eq0-clause-leads : goal.returns-then-device_number-eq0-clause-leads
returns-then-device_number-eq0-clause-leads g c =
    let read = c.read-moved in
    let noted = c.note.ensures in (
      search rules,
      search rules,
      search rules,
      search rules,
      adds_on_zero read.result _ _ _ _ _ _ _ read.ensures.read_faults noted.count noted.failed noted.done,
      adds_none _ _ _ _ _ _ _ _ refl refl read.ensures.write_faults refl,
      reads_beyond c.place_on_device-place.result _ _ _ read.ensures.image,
      refl,
    )

pub returns-else-device_number-eq0-clause-leads : goal.returns-else-device_number-eq0-clause-leads
returns-else-device_number-eq0-clause-leads g c =
    let read = c.read-moved-else-device_number-eq0 in
    let noted = c.note-else-device_number-eq0.ensures in (
      search rules,
      search rules,
      search rules,
      search rules,
      adds_on_one read.result _ _ _ _ _ _ _ read.ensures.read_faults noted.count noted.failed noted.done,
      adds_none _ _ _ _ _ _ _ _ refl refl refl read.ensures.write_faults,
      refl,
      reads_beyond c.place_on_device-place.result _ _ _ read.ensures.image,
    )

use Rattle.std.proofs.Common.{rules, ◌≡◌, ◌≤◌, ◌+◌, ◌*◌, ◌∙◌, ℕ, List, length, refl, sym, subst, arith}
use Rattle.io_edge.specs.SwapRuns.{moved_of}
use Rattle.io_edge.specs.Striping.{device_of, zero_needs, one_needs, pair_blocks}
use Rattle.io_edge.proofs.Stripes.{place_of-even}
use Rattle.io_edge.proofs.StripeWrites.{not_even}
use Rattle.io_edge.proofs.PairCalls.{adds_none, adds_on_one, adds_on_zero}
use Rattle.io_edge.proofs.PairRuns.{AreFirst, are_pages, counts_alike, first_of_unit, inside_run_even, inside_run_odd, within_run_zero, within_run_one, some_beyond, pair_some_even, pair_some_odd}
use Rattle.io_edge.proofs.swap_pair.SwapPairSwapDev.write_some.Goals as goal

pub write_some-wrote-requires-clause-even : goal.write_some-wrote-requires-clause-even
write_some-wrote-requires-clause-even g c = omega (arith, c.place_on_device-place.ensures, place_of-even c.args.block c.requires.even)

pub write_some-wrote-requires-clause-some : goal.write_some-wrote-requires-clause-some
write_some-wrote-requires-clause-some g c =
    let here : List (List ℕ) = c.in_unit-here.result.now in
    let first : AreFirst c.args.block here c.args.pages.now =
    first_of_unit c.args.block here c.args.pages.now c.in_unit-here.ensures c.requires.even c.requires.some (are_pages c.args.pages.now c.told-pages) in
    first.some

pub write_some-wrote-requires-clause-inside : goal.write_some-wrote-requires-clause-inside
write_some-wrote-requires-clause-inside g c =
    let on : device_of c.args.block ≡ 0 = sym c.device_number.ensures ∙ c.if-device_number-eq0.true in
    let here : List (List ℕ) = c.in_unit-here.result.now in
    let first : AreFirst c.args.block here c.args.pages.now =
    first_of_unit c.args.block here c.args.pages.now c.in_unit-here.ensures c.requires.even c.requires.some (are_pages c.args.pages.now c.told-pages) in
    let within : c.args.block + 2 * length here ≤ pair_blocks (g.D.SwapDev.blocks c.args.self.now.zero.now) (g.E.SwapDev.blocks c.args.self.now.one.now) =
    omega (arith, c.requires.inside, first.most) in
    subst (λ (p : ℕ). p + 2 * length here ≤ g.D.SwapDev.blocks c.args.self.now.zero.now) (sym c.place_on_device-place.ensures)
    (inside_run_even c.args.block _ _ here first.some first.unit on within)

pub returns-then-device_number-eq0-clause-written : goal.returns-then-device_number-eq0-clause-written
returns-then-device_number-eq0-clause-written g c =
    let on : device_of c.args.block ≡ 0 = sym c.device_number.ensures ∙ c.if-device_number-eq0.true in
    let here : List (List ℕ) = c.in_unit-here.result.now in
    let first : AreFirst c.args.block here c.args.pages.now =
    first_of_unit c.args.block here c.args.pages.now c.in_unit-here.ensures c.requires.even c.requires.some (are_pages c.args.pages.now c.told-pages) in
    pair_some_even c.write_some-wrote.result _ _ _ c.place_on_device-place.result c.args.block _ _ _ here c.args.pages.now
    (g.met.D.SwapDev.whole c.args.self.now.zero.now) (g.met.E.SwapDev.whole c.args.self.now.one.now)
    c.write_some-wrote.ensures.blocks c.place_on_device-place.ensures on first c.requires.inside c.write_some-wrote.ensures.written

pub returns-then-device_number-eq0-clause-write_faults : goal.returns-then-device_number-eq0-clause-write_faults
returns-then-device_number-eq0-clause-write_faults g c = counts_alike (moved_of c.write_some-wrote.result) c.moved_of.result _ _ (sym c.moved_of.ensures) c.note.ensures.count

pub returns-then-device_number-eq0-clause-leads : goal.returns-then-device_number-eq0-clause-leads
returns-then-device_number-eq0-clause-leads g c =
    let on : device_of c.args.block ≡ 0 = sym c.device_number.ensures ∙ c.if-device_number-eq0.true in
    let here : List (List ℕ) = c.in_unit-here.result.now in
    let first : AreFirst c.args.block here c.args.pages.now =
    first_of_unit c.args.block here c.args.pages.now c.in_unit-here.ensures c.requires.even c.requires.some (are_pages c.args.pages.now c.told-pages) in
    let within : c.args.block + 2 * length here ≤ pair_blocks (g.D.SwapDev.blocks c.args.self.now.zero.now) (g.E.SwapDev.blocks c.args.self.now.one.now) =
    omega (arith, c.requires.inside, first.most) in
    let wrote = c.write_some-wrote in
    let noted = c.note.ensures in (
      search rules,
      search rules,
      search rules,
      search rules,
      adds_none _ _ _ _ _ _ _ _ refl refl wrote.ensures.read_faults refl,
      adds_on_zero c.moved_of.result _ _ _ _ _ _ _ (counts_alike c.moved_of.result (moved_of wrote.result) _ _ c.moved_of.ensures wrote.ensures.write_faults) noted.count
          noted.failed noted.done,
      some_beyond c.write_some-wrote.result c.place_on_device-place.result _ _ _ _ here (g.met.D.SwapDev.whole c.args.self.now.zero.now)
          (subst (λ (p : ℕ). p + 2 * length here ≤ g.D.SwapDev.blocks c.args.self.now.zero.now) (sym c.place_on_device-place.ensures)
          (inside_run_even c.args.block _ _ here first.some first.unit on within))
          (subst (λ (p : ℕ). p + 2 * length here ≤ zero_needs (pair_blocks (g.D.SwapDev.blocks c.args.self.now.zero.now) (g.E.SwapDev.blocks c.args.self.now.one.now)))
          (sym c.place_on_device-place.ensures)
          (within_run_zero c.args.block _ here first.some first.unit on within))
          first.whole wrote.ensures.written,
      refl,
    )

pub write_some-wrote-requires-else-device_number-eq0-clause-even : goal.write_some-wrote-requires-else-device_number-eq0-clause-even
write_some-wrote-requires-else-device_number-eq0-clause-even g c = omega (arith, c.place_on_device-place.ensures, place_of-even c.args.block c.requires.even)

pub write_some-wrote-requires-else-device_number-eq0-clause-some : goal.write_some-wrote-requires-else-device_number-eq0-clause-some
write_some-wrote-requires-else-device_number-eq0-clause-some g c =
    let here : List (List ℕ) = c.in_unit-here.result.now in
    let first : AreFirst c.args.block here c.args.pages.now =
    first_of_unit c.args.block here c.args.pages.now c.in_unit-here.ensures c.requires.even c.requires.some (are_pages c.args.pages.now c.told-pages) in
    first.some

pub write_some-wrote-requires-else-device_number-eq0-clause-inside : goal.write_some-wrote-requires-else-device_number-eq0-clause-inside
write_some-wrote-requires-else-device_number-eq0-clause-inside g c =
    let on : device_of c.args.block ≡ 1 = not_even c.args.block (λ on. c.if-device_number-eq0.false (c.device_number.ensures ∙ on)) in
    let here : List (List ℕ) = c.in_unit-here.result.now in
    let first : AreFirst c.args.block here c.args.pages.now =
    first_of_unit c.args.block here c.args.pages.now c.in_unit-here.ensures c.requires.even c.requires.some (are_pages c.args.pages.now c.told-pages) in
    let within : c.args.block + 2 * length here ≤ pair_blocks (g.D.SwapDev.blocks c.args.self.now.zero.now) (g.E.SwapDev.blocks c.args.self.now.one.now) =
    omega (arith, c.requires.inside, first.most) in
    subst (λ (p : ℕ). p + 2 * length here ≤ g.E.SwapDev.blocks c.args.self.now.one.now) (sym c.place_on_device-place.ensures)
    (inside_run_odd c.args.block _ _ here first.some first.unit on within)

pub returns-else-device_number-eq0-clause-written : goal.returns-else-device_number-eq0-clause-written
returns-else-device_number-eq0-clause-written g c =
    let on : device_of c.args.block ≡ 1 = not_even c.args.block (λ on. c.if-device_number-eq0.false (c.device_number.ensures ∙ on)) in
    let here : List (List ℕ) = c.in_unit-here.result.now in
    let first : AreFirst c.args.block here c.args.pages.now =
    first_of_unit c.args.block here c.args.pages.now c.in_unit-here.ensures c.requires.even c.requires.some (are_pages c.args.pages.now c.told-pages) in
    pair_some_odd c.write_some-wrote-else-device_number-eq0.result _ _ _ c.place_on_device-place.result c.args.block _ _ _ here c.args.pages.now
    (g.met.D.SwapDev.whole c.args.self.now.zero.now) (g.met.E.SwapDev.whole c.args.self.now.one.now)
    c.write_some-wrote-else-device_number-eq0.ensures.blocks c.place_on_device-place.ensures on first c.requires.inside c.write_some-wrote-else-device_number-eq0.ensures.written

pub returns-else-device_number-eq0-clause-write_faults : goal.returns-else-device_number-eq0-clause-write_faults
returns-else-device_number-eq0-clause-write_faults g c =
    counts_alike (moved_of c.write_some-wrote-else-device_number-eq0.result) c.moved_of-else-device_number-eq0.result _ _ (sym c.moved_of-else-device_number-eq0.ensures)
    c.note-else-device_number-eq0.ensures.count

pub returns-else-device_number-eq0-clause-leads : goal.returns-else-device_number-eq0-clause-leads
returns-else-device_number-eq0-clause-leads g c =
    let on : device_of c.args.block ≡ 1 = not_even c.args.block (λ on. c.if-device_number-eq0.false (c.device_number.ensures ∙ on)) in
    let here : List (List ℕ) = c.in_unit-here.result.now in
    let first : AreFirst c.args.block here c.args.pages.now =
    first_of_unit c.args.block here c.args.pages.now c.in_unit-here.ensures c.requires.even c.requires.some (are_pages c.args.pages.now c.told-pages) in
    let within : c.args.block + 2 * length here ≤ pair_blocks (g.D.SwapDev.blocks c.args.self.now.zero.now) (g.E.SwapDev.blocks c.args.self.now.one.now) =
    omega (arith, c.requires.inside, first.most) in
    let wrote = c.write_some-wrote-else-device_number-eq0 in
    let noted = c.note-else-device_number-eq0.ensures in (
      search rules,
      search rules,
      search rules,
      search rules,
      adds_none _ _ _ _ _ _ _ _ refl refl refl wrote.ensures.read_faults,
      adds_on_one c.moved_of-else-device_number-eq0.result _ _ _ _ _ _ _
          (counts_alike c.moved_of-else-device_number-eq0.result (moved_of wrote.result) _ _ c.moved_of-else-device_number-eq0.ensures wrote.ensures.write_faults) noted.count
          noted.failed noted.done,
      refl,
      some_beyond c.write_some-wrote-else-device_number-eq0.result c.place_on_device-place.result _ _ _ _ here (g.met.E.SwapDev.whole c.args.self.now.one.now)
          (subst (λ (p : ℕ). p + 2 * length here ≤ g.E.SwapDev.blocks c.args.self.now.one.now) (sym c.place_on_device-place.ensures)
          (inside_run_odd c.args.block _ _ here first.some first.unit on within))
          (subst (λ (p : ℕ). p + 2 * length here ≤ one_needs (pair_blocks (g.D.SwapDev.blocks c.args.self.now.zero.now) (g.E.SwapDev.blocks c.args.self.now.one.now)))
          (sym c.place_on_device-place.ensures)
          (within_run_one c.args.block _ here first.some first.unit on within))
          first.whole wrote.ensures.written,
    )

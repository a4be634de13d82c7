use Rattle.std.proofs.Common.{rules, ◌≡◌, ◌≤◌, ◌+◌, ◌∙◌, ℕ, refl, sym, subst, arith}
use Rattle.io_edge.specs.Striping.{device_of, zero_needs, one_needs, pair_blocks}
use Rattle.io_edge.proofs.Stripes.{place_of-even}
use Rattle.io_edge.proofs.StripeWrites.{not_even, inside_even, inside_odd}
use Rattle.io_edge.proofs.BeyondPair.{within_zero, within_one, leaves_beyond}
use Rattle.io_edge.proofs.PairCalls.{adds_none, adds_on_one, adds_on_zero, on_done, on_failed, pair_writes_even, pair_writes_odd, pair_spoils_even, pair_spoils_odd}
use Rattle.io_edge.proofs.swap_pair.SwapPairSwapDev.write.Goals as goal

pub write-moved-requires-clause-even : goal.write-moved-requires-clause-even
write-moved-requires-clause-even g c = omega (arith, place_of-even c.args.block c.requires.even)

pub write-moved-requires-clause-inside : goal.write-moved-requires-clause-inside
write-moved-requires-clause-inside g c =
    omega (arith, inside_even c.args.block _ _ c.requires.even c.requires.inside (sym c.device_number.ensures ∙ c.if-device_number-eq0.true))

pub write-moved-requires-else-device_number-eq0-clause-even :
    goal.write-moved-requires-else-device_number-eq0-clause-even
write-moved-requires-else-device_number-eq0-clause-even g c = omega (arith, place_of-even c.args.block c.requires.even)

pub write-moved-requires-else-device_number-eq0-clause-inside :
    goal.write-moved-requires-else-device_number-eq0-clause-inside
write-moved-requires-else-device_number-eq0-clause-inside g c =
    omega (arith, inside_odd c.args.block _ _ c.requires.even c.requires.inside (not_even c.args.block (λ on. c.if-device_number-eq0.false (c.device_number.ensures ∙ on))))

pub returns-then-device_number-eq0-clause-done : goal.returns-then-device_number-eq0-clause-done
returns-then-device_number-eq0-clause-done g c =
    let on : device_of c.args.block ≡ 0 = sym c.device_number.ensures ∙ c.if-device_number-eq0.true in
    on_done c.write-moved.result _ _
    (pair_writes_even _ _ _ c.place_on_device-place.result c.args.block _ _ _ c.args.bytes.now
    (g.met.D.SwapDev.whole c.args.self.now.zero.now) (g.met.E.SwapDev.whole c.args.self.now.one.now)
    c.write-moved.ensures.blocks c.place_on_device-place.ensures on c.requires.even c.requires.inside c.told-bytes)
    c.write-moved.ensures.done

pub returns-then-device_number-eq0-clause-failed : goal.returns-then-device_number-eq0-clause-failed
returns-then-device_number-eq0-clause-failed g c =
    let on : device_of c.args.block ≡ 0 = sym c.device_number.ensures ∙ c.if-device_number-eq0.true in
    on_failed c.write-moved.result _ _
    (pair_spoils_even _ _ _ c.place_on_device-place.result c.args.block _ _ _
    (g.met.D.SwapDev.whole c.args.self.now.zero.now) (g.met.E.SwapDev.whole c.args.self.now.one.now)
    c.write-moved.ensures.blocks c.place_on_device-place.ensures on c.requires.even c.requires.inside)
    c.write-moved.ensures.failed

pub returns-else-device_number-eq0-clause-done : goal.returns-else-device_number-eq0-clause-done
returns-else-device_number-eq0-clause-done g c =
    let on : device_of c.args.block ≡ 1 = not_even c.args.block (λ on. c.if-device_number-eq0.false (c.device_number.ensures ∙ on)) in
    on_done c.write-moved-else-device_number-eq0.result _ _
    (pair_writes_odd _ _ _ c.place_on_device-place.result c.args.block _ _ _ c.args.bytes.now
    (g.met.D.SwapDev.whole c.args.self.now.zero.now) (g.met.E.SwapDev.whole c.args.self.now.one.now)
    c.write-moved-else-device_number-eq0.ensures.blocks c.place_on_device-place.ensures on c.requires.even c.requires.inside c.told-bytes)
    c.write-moved-else-device_number-eq0.ensures.done

pub returns-else-device_number-eq0-clause-failed : goal.returns-else-device_number-eq0-clause-failed
returns-else-device_number-eq0-clause-failed g c =
    let on : device_of c.args.block ≡ 1 = not_even c.args.block (λ on. c.if-device_number-eq0.false (c.device_number.ensures ∙ on)) in
    on_failed c.write-moved-else-device_number-eq0.result _ _
    (pair_spoils_odd _ _ _ c.place_on_device-place.result c.args.block _ _ _
    (g.met.D.SwapDev.whole c.args.self.now.zero.now) (g.met.E.SwapDev.whole c.args.self.now.one.now)
    c.write-moved-else-device_number-eq0.ensures.blocks c.place_on_device-place.ensures on c.requires.even c.requires.inside)
    c.write-moved-else-device_number-eq0.ensures.failed

pub returns-then-device_number-eq0-clause-leads : goal.returns-then-device_number-eq0-clause-leads
returns-then-device_number-eq0-clause-leads g c =
    let on : device_of c.args.block ≡ 0 = sym c.device_number.ensures ∙ c.if-device_number-eq0.true in
    let wrote = c.write-moved in
    let noted = c.note.ensures in (
      search rules,
      search rules,
      search rules,
      search rules,
      adds_none _ _ _ _ _ _ _ _ refl refl wrote.ensures.read_faults refl,
      adds_on_zero wrote.result _ _ _ _ _ _ _ wrote.ensures.write_faults noted.count noted.failed noted.done,
      leaves_beyond wrote.result c.place_on_device-place.result _ _ _ _ c.args.bytes.now (g.met.D.SwapDev.whole c.args.self.now.zero.now)
          (subst (λ (p : ℕ). p + 2 ≤ g.D.SwapDev.blocks c.args.self.now.zero.now) (sym c.place_on_device-place.ensures) (inside_even c.args.block _ _ c.requires.even c.requires.inside on))
          (subst (λ (p : ℕ). p + 2 ≤ zero_needs (pair_blocks (g.D.SwapDev.blocks c.args.self.now.zero.now) (g.E.SwapDev.blocks c.args.self.now.one.now))) (sym c.place_on_device-place.ensures)
          (within_zero c.args.block _ c.requires.even c.requires.inside on))
          c.told-bytes (wrote.ensures.done, wrote.ensures.failed),
      refl,
    )

pub returns-else-device_number-eq0-clause-leads : goal.returns-else-device_number-eq0-clause-leads
returns-else-device_number-eq0-clause-leads g c =
    let on : device_of c.args.block ≡ 1 = not_even c.args.block (λ on. c.if-device_number-eq0.false (c.device_number.ensures ∙ on)) in
    let wrote = c.write-moved-else-device_number-eq0 in
    let noted = c.note-else-device_number-eq0.ensures in (
      search rules,
      search rules,
      search rules,
      search rules,
      adds_none _ _ _ _ _ _ _ _ refl refl refl wrote.ensures.read_faults,
      adds_on_one wrote.result _ _ _ _ _ _ _ wrote.ensures.write_faults noted.count noted.failed noted.done,
      refl,
      leaves_beyond wrote.result c.place_on_device-place.result _ _ _ _ c.args.bytes.now (g.met.E.SwapDev.whole c.args.self.now.one.now)
          (subst (λ (p : ℕ). p + 2 ≤ g.E.SwapDev.blocks c.args.self.now.one.now) (sym c.place_on_device-place.ensures) (inside_odd c.args.block _ _ c.requires.even c.requires.inside on))
          (subst (λ (p : ℕ). p + 2 ≤ one_needs (pair_blocks (g.D.SwapDev.blocks c.args.self.now.zero.now) (g.E.SwapDev.blocks c.args.self.now.one.now))) (sym c.place_on_device-place.ensures)
          (within_one c.args.block _ c.requires.even c.requires.inside on))
          c.told-bytes (wrote.ensures.done, wrote.ensures.failed),
    )

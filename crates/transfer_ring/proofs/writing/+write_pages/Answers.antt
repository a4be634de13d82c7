use Rattle.std.proofs.Common.{◌+◌, ◌*◌, ℕ, List, Option, length, eqb-true, sym, subst, arith}
use Rattle.std.proofs.lemmas.List.{nil_from_length}
use Rattle.io_edge.specs.SwapRuns.{WritesPages, SpoilsPages}
use Rattle.io_edge.proofs.PairCalls.{on_done, on_failed}
use Rattle.io_edge.proofs.RunWrites.{writes_on, spoils_on}
use Rattle.vm_facts.specs.SwapImages.{SwapImage}
use Rattle.transfer_ring.proofs.RunLemmas.{none_written}
use Rattle.transfer_ring.proofs.writing.+write_pages.Goals as goal

pub returns-then-is_empty-clause-done : goal.returns-then-is_empty-clause-done
returns-then-is_empty-clause-done g t c =
    none_written (g.D.SwapDev.image c.args.swap.now) c.args.block c.args.pages.now
    (nil_from_length c.args.pages.now (eqb-true (length c.args.pages.now) 0 (sym c.if-is_empty.ensures)))

pub write_pages-requires : goal.write_pages-requires
write_pages-requires g t c κs out =
    let some = c.in-Some.ensures.written.0 in
    let few = c.in-Some.ensures.written.1 in (
      omega (arith, c.decreases, some, few, c.split_at.ensures.back_len),
      (
        out,
        (
          omega (arith, c.requires.even),
          omega (arith, c.requires.inside, few, c.split_at.ensures.back_len, c.in-Some.ensures.blocks),
        ),
      ),
    )

pub returns-in-Some-clause-done : goal.returns-in-Some-clause-done
returns-in-Some-clause-done g t c =
    let old : Option SwapImage = g.D.SwapDev.image c.args.swap.now in
    let mid : Option SwapImage = g.D.SwapDev.image c.write_some.new.self in
    let new : Option SwapImage = g.D.SwapDev.image c.write_pages.new.swap in
    let next : ℕ = c.args.block + 2 * c.in-Some.count in
    on_done c.write_pages.result (WritesPages mid next c.split_at.result.1.now new) (WritesPages old c.args.block c.args.pages.now new)
    (λ run. writes_on c.in-Some.count old mid new c.args.block c.args.pages.now c.in-Some.ensures.written.2
    (subst (λ (ps : List (List ℕ)). WritesPages mid next ps new) c.split_at.ensures.back run)) c.write_pages.ensures.done

pub returns-in-Some-clause-failed : goal.returns-in-Some-clause-failed
returns-in-Some-clause-failed g t c =
    let old : Option SwapImage = g.D.SwapDev.image c.args.swap.now in
    let mid : Option SwapImage = g.D.SwapDev.image c.write_some.new.self in
    let new : Option SwapImage = g.D.SwapDev.image c.write_pages.new.swap in
    let next : ℕ = c.args.block + 2 * c.in-Some.count in
    on_failed c.write_pages.result (SpoilsPages mid next c.split_at.result.1.now new) (SpoilsPages old c.args.block c.args.pages.now new)
    (λ run. spoils_on c.in-Some.count old mid new c.args.block c.args.pages.now c.in-Some.ensures.written.2
    (subst (λ (ps : List (List ℕ)). SpoilsPages mid next ps new) c.split_at.ensures.back run)) c.write_pages.ensures.failed

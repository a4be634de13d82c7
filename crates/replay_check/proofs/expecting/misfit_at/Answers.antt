use Rattle.std.proofs.Common.{◌≡◌, ℕ, ◌+◌, ◌<◌, ◌≤◌, List, length, take, All, Option, None, sym, ap, ◌∙◌, subst, arith}
use Rattle.std.specs.Prelude.{IsSome}
use Rattle.vm_facts.specs.declared.entry.Entry.{Entry}
use Rattle.flat_state.specs.Flat.{NamedImage, image_numbered}
use Rattle.replay_check.specs.declared.expecting.Expected.{Expected}
use Rattle.flat_process.specs.Images.{images_of}
use Rattle.replay_check.specs.Verdicts.{first_bad}
use Rattle.replay_check.specs.Expecting.{IsExpectedBehind}
use Rattle.flat_process.proofs.Loading.{images_count, first_numbered}
use Rattle.replay_check.proofs.Verdicts.{taken_none}
use Rattle.replay_check.proofs.Misfits.{number_some, good_first, misfit_is, never_none}
use Rattle.replay_check.proofs.expecting.misfit_at.Goals as goal

pub returns-in_default : goal.returns-in_default
returns-in_default c = λ A images first bad.
    let some : 0 < c.args.number = (number_some A c.args.entries.now c.args.number bad).0 in
    absurd (omega (arith, c.in_default.ensures))

pub returns-then-index-entries : goal.returns-then-index-entries
returns-then-index-entries c = λ A images first bad.
    let some : 0 < c.args.number = (number_some A c.args.entries.now c.args.number bad).0 in
    let within : c.args.number ≤ length c.args.entries.now = (number_some A c.args.entries.now c.args.number bad).1 in
    absurd (omega (arith, c.in-Some.ensures))

pub started-requires : goal.started-requires
started-requires c =
    let is : c.as_slice.result.now ≡ images_of c.args.images.now = c.as_slice.ensures.value ∙ c.in_ok-programs.ensures in
    subst (λ (ps : List NamedImage). All (λ (n : ℕ). IsSome (image_numbered ps n)) c.args.first.now) (sym is)
    (first_numbered c.args.images.now c.args.first.now c.requires.images c.requires.first)

pub invariant_of-judge : goal.invariant_of-judge
invariant_of-judge c = record {
  few =
      let is : length c.as_slice-2.result.now ≡ length c.args.images.now =
      ap length (c.as_slice-2.ensures.value ∙ c.in_ok-programs.ensures) ∙ images_count c.args.images.now c.requires.images.images in
      let few = c.requires.images.few in
      omega arith;
}

pub returns-in-Some-2 : goal.returns-in-Some-2
returns-in-Some-2 c = λ A images first bad.
    let entries : List Entry = c.args.entries.now in
    let index : ℕ = c.in-Some.index in
    let some : 0 < c.args.number = (number_some A entries c.args.number bad).0 in
    let is : c.args.number ≡ index + 1 = omega (arith, c.in-Some.ensures) in
    let started : A.images ≡ c.as_slice.result.now = images ∙ sym (c.as_slice.ensures.value ∙ c.in_ok-programs.ensures) in
    let judged : A.images ≡ c.as_slice-2.result.now = images ∙ sym (c.as_slice-2.ensures.value ∙ c.in_ok-programs.ensures) in
    let good : first_bad A (take index entries) ≡ None = good_first A entries c.args.number index bad is in
    let told = c.in_ok-expected.ensures A judged (taken_none A c.in_ok-machine.machine (c.in_ok-machine.ensures A started first)) good in
    misfit_is A entries c.args.number index c.index-entries-index.result c.in-Some-2.expected bad is c.if-index-entries.false c.index-entries-index.is
    (subst (λ (o : Option Expected). IsExpectedBehind A (take index entries) c.index-entries-index.result o) c.in-Some-2.is told)

pub returns : goal.returns
returns c = λ A images first bad.
    let entries : List Entry = c.args.entries.now in
    let index : ℕ = c.in-Some.index in
    let some : 0 < c.args.number = (number_some A entries c.args.number bad).0 in
    let is : c.args.number ≡ index + 1 = omega (arith, c.in-Some.ensures) in
    let started : A.images ≡ c.as_slice.result.now = images ∙ sym (c.as_slice.ensures.value ∙ c.in_ok-programs.ensures) in
    let judged : A.images ≡ c.as_slice-2.result.now = images ∙ sym (c.as_slice-2.ensures.value ∙ c.in_ok-programs.ensures) in
    let good : first_bad A (take index entries) ≡ None = good_first A entries c.args.number index bad is in
    let told = c.in_ok-expected.ensures A judged (taken_none A c.in_ok-machine.machine (c.in_ok-machine.ensures A started first)) good in
    never_none A entries c.args.number index c.index-entries-index.result bad is c.if-index-entries.false c.index-entries-index.is
    (subst (λ (o : Option Expected). IsExpectedBehind A (take index entries) c.index-entries-index.result o) c.in-None.is told)

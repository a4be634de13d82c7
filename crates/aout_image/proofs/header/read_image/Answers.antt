use Rattle.std.proofs.Common.{◌∙◌, ap, sym, subst, ◌≡◌, ◌≤◌, Some}
use Rattle.aout_image.specs.declared.Image.{Image}
use Rattle.aout_image.specs.declared.Judged.{Judged}
use Rattle.aout_image.specs.Image.{judgement, judged_facts, kind_of, IfImage, IsSound, file_length_of}
use Rattle.aout_image.proofs.Images.{IfImage-map, judgement-front, judgement-is, judgement-short, judgement-kind}
use Rattle.aout_image.proofs.header.read_image.Goals as goal

pub returns-then-len-lt32 : goal.returns-then-len-lt32
returns-then-len-lt32 c =
    let judged = judgement-short c.args.head.now c.args.len c.if-len-lt32.true in
    record {
      judged = judged;
      of_the_file = λ bytes front size. judged ∙ judgement-front bytes c.args.head.now c.args.len front size;
      sound = tt;
      whole = tt;
    }

pub returns-in-None : goal.returns-in-None
returns-in-None c =
    let judged = judgement-kind c.args.head.now c.args.len _ c.if-len-lt32.false (sym c.in-None.is ∙ c.kind_named.ensures ∙ ap kind_of c.word.ensures) in
    record {
      judged = judged;
      of_the_file = λ bytes front size. judged ∙ judgement-front bytes c.args.head.now c.args.len front size;
      sound = tt;
      whole = tt;
    }

pub returns-in-Some : goal.returns-in-Some
returns-in-Some c =
    let head = c.args.head.now in
    let len = c.args.len in
    let judged : c.judge.result ≡ judgement head len =
    c.judge.ensures ∙ ap (λ (i : Image). judged_facts i len) c.facts.ensures
    ∙ judgement-kind head len (Some c.in-Some.kind) c.if-len-lt32.false (sym c.in-Some.is ∙ c.kind_named.ensures ∙ ap kind_of c.word.ensures) in
    let shown = subst (λ (j : Judged). IfImage j (λ i. IsSound i × (file_length_of i ≤ len))) (sym judged) (judgement-is head len) in
    record {
      judged = judged;
      of_the_file = λ bytes front size. judged ∙ judgement-front bytes head len front size;
      sound = IfImage-map c.judge.result (λ i. IsSound i × (file_length_of i ≤ len)) IsSound (λ i h. h.0) shown;
      whole = IfImage-map c.judge.result (λ i. IsSound i × (file_length_of i ≤ len)) (λ i. file_length_of i ≤ len) (λ i h. h.1) shown;
    }

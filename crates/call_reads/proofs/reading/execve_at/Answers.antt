use Rattle.std.proofs.Common.{◌≡◌, ℕ, Option, Some, None, Result, Ok, Err, refl, sym, ap, ◌∙◌, ◌-◌, subst}
use Rattle.std.specs.Prelude.{IfOk, IfSome}
use Rattle.user_vax.specs.declared.refused.Refused.{Refused}
use Rattle.aout_image.specs.declared.Image.{Image}
use Rattle.machine_state.specs.Named.{Named}
use Rattle.flat_model.specs.declared.calls.Reply.TheVariants.{Fails}
use Rattle.call_reads.specs.Reading.{IsAmong}
use Rattle.call_reads.proofs.Names.{ExecveBy, execve_is, got, started}
use Rattle.call_reads.proofs.Replies.{all_start}
use Rattle.call_reads.proofs.reading.execve_at.Goals as goal

pub returns-in-Err-clause-value : goal.returns-in-Err-clause-value
returns-in-Err-clause-value g c = λ known shown.
    let e : c.in_ok-refused.field-0 ≡ Err c.in-Err.refused = cc in
    execve_is (g.M.Memory.answers c.args.memory.now) known c.args.images.now c.args.path c.args.argv c.in_ok-refused.field-0 (Err c.in-Err.refused)
    (c.in_ok-refused.ensures.image known shown)
    (subst (λ (p : Result (Option ℕ) Refused). ExecveBy (g.M.Memory.answers c.args.memory.now) known c.args.images.now c.args.argv p (Err c.in-Err.refused)) (sym e) refl)

pub returns-in-Ok-None-clause-value : goal.returns-in-Ok-None-clause-value
returns-in-Ok-None-clause-value g c = λ known shown.
    let e : c.in_ok-refused.field-0 ≡ Ok None = cc in
    execve_is (g.M.Memory.answers c.args.memory.now) known c.args.images.now c.args.path c.args.argv c.in_ok-refused.field-0 (Ok (Fails 2))
    (c.in_ok-refused.ensures.image known shown)
    (subst (λ (p : Result (Option ℕ) Refused). ExecveBy (g.M.Memory.answers c.args.memory.now) known c.args.images.now c.args.argv p (Ok (Fails 2))) (sym e) refl)

pub returns-in-Ok-Some-clause-value : goal.returns-in-Ok-Some-clause-value
returns-in-Ok-Some-clause-value g c = λ known shown.
    let e : c.in_ok-refused.field-0 ≡ Ok (Some c.in-Ok-Some.image) = cc in
    started (g.M.Memory.answers c.args.memory.now) known c.args.images.now c.args.path c.args.argv c.in-Ok-Some.image c.in_ok-refused.field-0 c.start_of.result e
    (c.in_ok-refused.ensures.image known shown)
    (λ x s at facts. c.start_of.ensures.value x
    (ap (λ (f : Image). f.entry) (facts ∙ ap (λ (n : Named). n.facts) (sym (got c.args.images.now (c.in-Ok-Some.image - 1) c.index-images-image.result s at)))))

pub returns-in-Ok-Some-clause-starts : goal.returns-in-Ok-Some-clause-starts
returns-in-Ok-Some-clause-starts g c =
    let e : c.in_ok-refused.field-0 ≡ Ok (Some c.in-Ok-Some.image) = cc in
    let among = subst (λ (r : Result (Option ℕ) Refused). IfOk r (λ number. IfSome number (IsAmong c.args.images.now))) e c.in_ok-refused.ensures.within in
    all_start (λ n. n ≡ c.in-Ok-Some.image) (IsAmong c.args.images.now) (λ n same. subst (IsAmong c.args.images.now) (sym same) among) c.start_of.result c.start_of.ensures.starts

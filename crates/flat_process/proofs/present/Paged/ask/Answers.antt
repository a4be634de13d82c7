use Rattle.std.proofs.Common.{◌≡◌, [], Err, ap, ◌∙◌}
use Rattle.flat_state.specs.Flat.{FlatState}
use Rattle.user_vax.specs.declared.refused.Refused.{Refused}
use Rattle.user_vax.specs.declared.refused.Refused.TheVariants.{Miss}
use Rattle.flat_model.specs.Calls.{reply_of}
use Rattle.flat_process.specs.Holdings.{no_process, no_space}
use Rattle.flat_process.proofs.Paging.{missed_reads_from, hit_reads_from}
use Rattle.flat_process.proofs.present.Paged.ask.Goals as goal

pub returns-in-Ok-clause-pages : goal.returns-in-Ok-clause-pages
returns-in-Ok-clause-pages c = λ F p s.
    hit_reads_from c.loop-address.self.space c.args.self.now.space c.args.self.now.pages.items c.loop-address.self.pages.items
    (reply_of c.args.programs.now F p s c.args.call c.args.regs) c.in_ok-address.field-0 (c.in_ok-address.ensures F p s)
    (λ address write h. let e = c.in-Ok.is in absurd (cc)) c.loop-address.invariant.space (c.loop-address.invariant.pages F p s)

pub returns-in-Err-Below-clause-pages : goal.returns-in-Err-Below-clause-pages
returns-in-Err-Below-clause-pages c = λ F p s.
    hit_reads_from c.loop-address.self.space c.args.self.now.space c.args.self.now.pages.items c.loop-address.self.pages.items
    (reply_of c.args.programs.now F p s c.args.call c.args.regs) c.in_ok-address.field-0 (c.in_ok-address.ensures F p s)
    (λ address write h. let e = c.in-Err-Below.is in let k = c.in-Err-Below.field-0-is in absurd (cc)) c.loop-address.invariant.space (c.loop-address.invariant.pages F p s)

pub returns-in-Err-Signal-clause-pages : goal.returns-in-Err-Signal-clause-pages
returns-in-Err-Signal-clause-pages c = λ F p s.
    hit_reads_from c.loop-address.self.space c.args.self.now.space c.args.self.now.pages.items c.loop-address.self.pages.items
    (reply_of c.args.programs.now F p s c.args.call c.args.regs) c.in_ok-address.field-0 (c.in_ok-address.ensures F p s)
    (λ address write h. let e = c.in-Err-Signal.is in let k = c.in-Err-Signal.field-0-is in absurd (cc)) c.loop-address.invariant.space (c.loop-address.invariant.pages F p s)

pub loop-address-smaller : goal.loop-address-smaller
loop-address-smaller c =
    let F : FlatState = record { processes = []; next_pid = 0; next_sid = 0 } in
    let is : c.in_ok-address.field-0 ≡ Err (Miss c.in-Err-Miss.address c.in-Err-Miss.write) = c.in-Err-Miss.is ∙ ap (λ (e : Refused). Err e) c.in-Err-Miss.field-0-is in
    (missed_reads_from c.loop-address.self.space c.args.self.now.space c.args.self.now.pages.items c.loop-address.self.pages.items c.bring.new.self.pages.items
    (reply_of c.args.programs.now F no_process no_space c.args.call c.args.regs) c.in-Err-Miss.address c.in-Err-Miss.write c.in_ok-address.field-0
    (c.in_ok-address.ensures F no_process no_space) is c.loop-address.invariant.space (c.loop-address.invariant.pages F no_process no_space) c.in_ok-bring-in-Err-Miss.ensures.pages).fewer

pub loop-address-preserved : goal.loop-address-preserved
loop-address-preserved c =
    let is : c.in_ok-address.field-0 ≡ Err (Miss c.in-Err-Miss.address c.in-Err-Miss.write) = c.in-Err-Miss.is ∙ ap (λ (e : Refused). Err e) c.in-Err-Miss.field-0-is in
    record {
      space = c.bring.ensures.space ∙ c.loop-address.invariant.space;
      pages = λ F p s.
          (missed_reads_from c.loop-address.self.space c.args.self.now.space c.args.self.now.pages.items c.loop-address.self.pages.items c.bring.new.self.pages.items
          (reply_of c.args.programs.now F p s c.args.call c.args.regs) c.in-Err-Miss.address c.in-Err-Miss.write c.in_ok-address.field-0
          (c.in_ok-address.ensures F p s) is c.loop-address.invariant.space (c.loop-address.invariant.pages F p s) c.in_ok-bring-in-Err-Miss.ensures.pages).same;
    }

use Rattle.std.proofs.Common.{◌≡◌, ◌≤◌, ◌-◌, ◌%◌, ◌<◌, ℕ, List, length, refl, sym, ap, ◌∙◌, subst, arith}
use Rattle.vm_facts.specs.Lists.{overwritten}
use Rattle.vm_facts.specs.Answers.{writes_from}
use Rattle.flat_state.specs.Space.{Space}
use Rattle.flat_state.specs.Writes.{Wrote}
use Rattle.flat_process.specs.Sizes.{IsSized}
use Rattle.flat_process.proofs.Ahead.{data_writable, stack_writable}
use Rattle.flat_process.proofs.Together.{data_together, stack_together}
use Rattle.flat_process.proofs.space.FlatSpaceMemory.put.Goals as goal

pub returns-in-Data-clause-may : goal.returns-in-Data-clause-may
returns-in-Data-clause-may c ok j below =
    let s : Space = c.args.self.now in
    let i : ℕ = c.in-Data.index in
    let own : c.len.result ≡ length c.self.inside.data.items = omega (arith, c.len.ensures) in
    let long : c.len.result ≡ length s.data_bytes = own ∙ ap (λ (x : Space). length x.data_bytes) c.self.view_is in
    let few : length c.args.bytes.now ≤ length s.data_bytes - i = subst (λ (n : ℕ). length c.args.bytes.now ≤ n - i) long (c.put_in.ensures.few ok) in
    data_writable s (subst IsSized c.self.view_is c.self.invariant) c.args.address i (length s.data_bytes - i) (sym c.spot.ensures.spot ∙ c.in-Data.is) refl j
    (omega (arith, below, few))

pub returns-in-Data-clause-done : goal.returns-in-Data-clause-done
returns-in-Data-clause-done c ok =
    let s : Space = c.args.self.now in
    let i : ℕ = c.in-Data.index in
    let bytes : List ℕ = c.args.bytes.now in
    let own : c.len.result ≡ length c.self.inside.data.items = omega (arith, c.len.ensures) in
    let long : c.len.result ≡ length s.data_bytes = own ∙ ap (λ (x : Space). length x.data_bytes) c.self.view_is in
    let few : length bytes ≤ length s.data_bytes - i = subst (λ (n : ℕ). length bytes ≤ n - i) long (c.put_in.ensures.few ok) in
    let whole : Wrote s (writes_from c.args.address bytes) (record s { data_bytes = overwritten s.data_bytes i bytes }) =
    data_together s (subst IsSized c.self.view_is c.self.invariant) c.args.address i bytes (sym c.spot.ensures.spot ∙ c.in-Data.is) few in
    let with_data : List ℕ → Space = λ (xs : List ℕ). record {
      sid = c.self.inside.sid;
      image = c.self.inside.image;
      text_bytes = c.self.inside.text.items;
      data_bytes = xs;
      stack_bytes = c.self.inside.stack.items;
    } in
    subst (λ (x : Space). Wrote s (writes_from c.args.address bytes) x)
    (sym (ap with_data (c.put_in.ensures.done ok) ∙ ap (λ (x : Space). record x { data_bytes = overwritten x.data_bytes i bytes }) c.self.view_is)) whole

pub returns-in-Stack-clause-may : goal.returns-in-Stack-clause-may
returns-in-Stack-clause-may c ok j below =
    let s : Space = c.args.self.now in
    let i : ℕ = c.in-Stack.index in
    let few : length c.args.bytes.now ≤ 1024 - i % 1024 = c.put_in-in-Stack.ensures.few ok in
    stack_writable s (subst IsSized c.self.view_is c.self.invariant) c.args.address i (1024 - i % 1024) (sym c.spot.ensures.spot ∙ c.in-Stack.is) refl j
    (omega (arith, below, few))

pub returns-in-Stack-clause-done : goal.returns-in-Stack-clause-done
returns-in-Stack-clause-done c ok =
    let s : Space = c.args.self.now in
    let i : ℕ = c.in-Stack.index in
    let bytes : List ℕ = c.args.bytes.now in
    let inside : i < length s.stack_bytes = c.in-Stack.ensures.within in
    let few : length bytes ≤ 1024 - i % 1024 = c.put_in-in-Stack.ensures.few ok in
    let whole : Wrote s (writes_from c.args.address bytes) (record s { stack_bytes = overwritten s.stack_bytes i bytes }) =
    stack_together s (subst IsSized c.self.view_is c.self.invariant) c.args.address i bytes (sym c.spot.ensures.spot ∙ c.in-Stack.is) inside few in
    let with_stack : List ℕ → Space = λ (xs : List ℕ). record {
      sid = c.self.inside.sid;
      image = c.self.inside.image;
      text_bytes = c.self.inside.text.items;
      data_bytes = c.self.inside.data.items;
      stack_bytes = xs;
    } in
    subst (λ (x : Space). Wrote s (writes_from c.args.address bytes) x)
    (sym (ap with_stack (c.put_in-in-Stack.ensures.done ok) ∙ ap (λ (x : Space). record x { stack_bytes = overwritten x.stack_bytes i bytes }) c.self.view_is)) whole

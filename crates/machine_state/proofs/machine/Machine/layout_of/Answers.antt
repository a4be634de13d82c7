use Rattle.std.proofs.Common.{◌≡◌, false, ℕ, Option, Some, None, sym, ap, ◌∙◌, subst}
use Rattle.kernel_model.specs.Kernel.{HoldsSpace}
use Rattle.table_steps.specs.Calls.{life_in}
use Rattle.table_steps.specs.Tables.{Tables}
use Rattle.table_steps.specs.Known.{Known}
use Rattle.table_steps.specs.Machine.{Standing, lists_of, kernel_by}
use Rattle.table_steps.specs.UserMemory.{IsLaidOut, HasLengths, CanLend}
use Rattle.table_steps.specs.Rising.{StandsAt}
use Rattle.machine_state.proofs.Standings.{stands_now}
use Rattle.table_steps.proofs.UserFrames.{known_by, layout_shown, stands_there}
use Rattle.table_steps.proofs.Lives.{holds_space}
use Rattle.machine_state.proofs.machine.Machine.layout_of.Goals as goal

some_none : (n : ℕ) → None ≡ Some n → ⊥
some_none n e = cc

some_is : (n m : ℕ) → Some n ≡ Some m → n ≡ m
some_is n m e = cc

pub unreachable-requires : goal.unreachable-requires
unreachable-requires c =
    let t : Tables = c.self.inside.tables in
    let can : CanLend (kernel_by t c.self.inside.journal.items c.self.inside.stopped) c.args.pid = subst (λ (s : Standing). CanLend s.kernel c.args.pid) (sym c.self.view_is) c.requires.can in
    some_none can.sid (sym c.in_default.is ∙ c.space_of.ensures ∙ holds_space t.processes t.next_pid c.args.pid can.sid can.holds)

pub unreachable-requires-in_default-index_of : goal.unreachable-requires-in_default-index_of
unreachable-requires-in_default-index_of c =
    let t : Tables = c.self.inside.tables in
    let can : CanLend (kernel_by t c.self.inside.journal.items c.self.inside.stopped) c.args.pid = subst (λ (s : Standing). CanLend s.kernel c.args.pid) (sym c.self.view_is) c.requires.can in
    let same : c.in-Some.sid ≡ can.sid = some_is c.in-Some.sid can.sid (sym c.in-Some.is ∙ c.space_of.ensures ∙ holds_space t.processes t.next_pid c.args.pid can.sid can.holds) in
    can.there
    (subst (λ (n : ℕ). Rattle.page_model.specs.Pages.numbered Rattle.page_model.specs.Placement.space_number n (kernel_by t c.self.inside.journal.items c.self.inside.stopped).place.spaces ≡ None) same
    (stands_there t.core.slots t.spaces c.in-Some.sid c.in_default-index_of.ensures.absent))

pub returns-clause-laid_out : goal.returns-clause-laid_out
returns-clause-laid_out c =
    let t : Tables = c.self.inside.tables in
    let now = stands_now c.self.inside c.args.self.now c.self.invariant c.self.view_is c.requires.running in
    let k : Known (lists_of t) = known_by t c.self.inside.journal.items c.self.inside.stopped c.stands.ensures now.stands in
    let r = c.layout_at.result in
    let running : c.self.inside.stopped ≡ false = ap (λ (s : Standing). s.kernel.stopped) c.self.view_is ∙ c.requires.running in
    let lengths : HasLengths t.spaces r.index r.image r.text_len r.data_len r.stack_len =
    subst (λ (n : ℕ). HasLengths t.spaces n r.image r.text_len r.data_len r.stack_len) (sym c.layout_at.ensures.index) c.layout_at.ensures.lengths in
    let number = subst (λ (n : ℕ). Rattle.std.proofs.Common.slice_get (Rattle.table_steps.specs.Rising.sids_of t.spaces) n ≡ Some r.sid) (sym c.layout_at.ensures.index)
    (c.in-Some-index_of.ensures.found.number ∙ ap (λ (n : ℕ). Some n) (sym c.layout_at.ensures.sid)) in
    subst (λ (s : Standing). IsLaidOut s.kernel r.index r.sid r.image r.text_len r.data_len r.stack_len) c.self.view_is
    (layout_shown t c.self.inside.journal.items c.self.inside.stopped r.index r.sid r.image r.text_len r.data_len r.stack_len k running number lengths)

pub returns-clause-space : goal.returns-clause-space
returns-clause-space c =
    let t : Tables = c.self.inside.tables in
    let can : CanLend (kernel_by t c.self.inside.journal.items c.self.inside.stopped) c.args.pid = subst (λ (s : Standing). CanLend s.kernel c.args.pid) (sym c.self.view_is) c.requires.can in
    let same : c.in-Some.sid ≡ can.sid = some_is c.in-Some.sid can.sid (sym c.in-Some.is ∙ c.space_of.ensures ∙ holds_space t.processes t.next_pid c.args.pid can.sid can.holds) in
    ap (λ (s : Standing). life_in s.kernel c.args.pid) (sym c.self.view_is) ∙ can.holds ∙ ap HoldsSpace (sym (c.layout_at.ensures.sid ∙ same))

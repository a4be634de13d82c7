use Rattle.std.proofs.Common.{true, false, Result, sym, ◌∙◌, subst}
use Rattle.std.specs.Prelude.{OnOk}
use Rattle.vm_facts.specs.declared.stop.NoMemory.{NoMemory}
use Rattle.table_steps.specs.Tables.{Tables}
use Rattle.machine_state.specs.Going.{CanGoOn}
use Rattle.machine_state.specs.Beginning.{LookedFirst, BeganFirst}
use Rattle.machine_state.proofs.FirstBegins.{before_first, looked_by, may_look, runs_none, still_none, no_place, FoundFirst, looked_found, may_enter}
use Rattle.machine_state.proofs.FirstBegun.{Began, began_stands, began_first}
use Rattle.machine_state.proofs.Standings.{runs_by, runs_within, all_before}
use Rattle.machine_state.proofs.Stepping.{goes_on}
use Rattle.machine_state.proofs.machine.Machine.begin.Goals as goal

pub find_first-found-requires : goal.find_first-found-requires
find_first-found-requires c =
    may_look c.self.inside c.args.pid c.args.image (before_first c.self.inside c.args.self.now c.args.pid c.args.image c.self.invariant c.self.view_is c.requires.ready c.requires.may)

none : (c : goal.Then-not-branch) → LookedFirst c.self.inside.tables c.find_first-found.new.tables c.args.pid c.args.image false
none c = looked_by _ _ _ _ false c.find_first-found.result _ c.in_ok-or_break_off.ensures.made c.if-not-branch.true c.find_first-found.ensures.looked

pub invariant_of-self-then-not-branch : goal.invariant_of-self-then-not-branch
invariant_of-self-then-not-branch c =
    runs_within _ (c.in_ok-or_break_off.ensures.same ∙ runs_by c.self.inside c.args.self.now c.self.view_is c.requires.ready.running.runs) (λ _.
    runs_none c.self.inside c.find_first-found.new.tables c.args.pid c.args.image c.or_break_off.new.stopped
    (before_first c.self.inside c.args.self.now c.args.pid c.args.image c.self.invariant c.self.view_is c.requires.ready c.requires.may) (none c) c.in_ok-or_break_off.ensures.same)

pub returns-then-not-branch-clause-no_place : goal.returns-then-not-branch-clause-no_place
returns-then-not-branch-clause-no_place c _ =
    no_place c.self.inside c.args.self.now c.find_first-found.new.tables c.args.pid c.args.image c.self.view_is
    (before_first c.self.inside c.args.self.now c.args.pid c.args.image c.self.invariant c.self.view_is c.requires.ready c.requires.may) (none c)

pub returns-then-not-branch-clause-goes_on : goal.returns-then-not-branch-clause-goes_on
returns-then-not-branch-clause-goes_on c = subst CanGoOn (sym (still_none c.self.inside c.args.self.now c.find_first-found.new.tables c.args.pid c.args.image c.or_break_off.new.stopped
    c.self.view_is (none c) c.in_ok-or_break_off.ensures.same)) c.requires.ready

pub start_first-started-requires : goal.start_first-started-requires
start_first-started-requires c =
    may_enter c.self.inside c.find_first-found.new.tables c.args.pid c.args.image
    (before_first c.self.inside c.args.self.now c.args.pid c.args.image c.self.invariant c.self.view_is c.requires.ready c.requires.may) c.stands.ensures
    (looked_found _ _ _ _ (looked_by _ _ _ _ true c.find_first-found.result _ c.in_ok-or_break_off.ensures.made c.if-not-branch.false c.find_first-found.ensures.looked))

found : (c : goal.After-self-1) → FoundFirst c.self.inside.tables c.find_first-found.new.tables c.args.pid c.args.image
found c = looked_found _ _ _ _ (looked_by _ _ _ _ true c.find_first-found.result _ c.in_ok-or_break_off.ensures.made c.if-not-branch.false c.find_first-found.ensures.looked)

began : (c : goal.After-self-1) → Began c.self.inside c.args.pid c.args.image (found c).facts (found c).holdings c.start_first-started.new.tables
began c =
    let f = found c in
    let first : BeganFirst c.find_first-found.new.tables c.start_first-started.new.tables c.args.image =
    subst (λ (x : Result (Unit {0}) NoMemory). OnOk x (BeganFirst c.find_first-found.new.tables c.start_first-started.new.tables c.args.image)) c.in_ok-or_break_off-2.ensures.made
    c.start_first-started.ensures.began in
    record {
      before = before_first c.self.inside c.args.self.now c.args.pid c.args.image c.self.invariant c.self.view_is c.requires.ready c.requires.may;
      is = f.is;
      placed = f.placed;
      began = subst (λ (x : Tables). BeganFirst x c.start_first-started.new.tables c.args.image) f.book first;
    }

pub invariant_of-self-2 : goal.invariant_of-self-2
invariant_of-self-2 c =
    let same = c.in_ok-or_break_off-2.ensures.same ∙ c.in_ok-or_break_off.ensures.same in
    runs_within _ (same ∙ runs_by c.self.inside c.args.self.now c.self.view_is c.requires.ready.running.runs) (λ _.
    began_stands c.self.inside c.args.pid c.args.image _ _ c.start_first-started.new.tables (began c) c.or_break_off-2.new.stopped same)

pub returns-clause-began : goal.returns-clause-began
returns-clause-began c _ =
    began_first c.self.inside c.args.self.now c.args.pid c.args.image _ _ c.start_first-started.new.tables (began c) c.or_break_off-2.new.stopped
    (c.in_ok-or_break_off-2.ensures.same ∙ c.in_ok-or_break_off.ensures.same) c.self.view_is

pub returns-clause-goes_on : goal.returns-clause-goes_on
returns-clause-goes_on c =
    let same = c.in_ok-or_break_off-2.ensures.same ∙ c.in_ok-or_break_off.ensures.same in
    goes_on _ (invariant_of-self-2 c) (same ∙ runs_by c.self.inside c.args.self.now c.self.view_is c.requires.ready.running.runs) (all_before c.start_first-started.new.tables.book.holdings)

use Rattle.std.proofs.Common.{◌≡◌, ℕ, ◌-◌, Bool, true, false, length, Result, Ok, refl, sym, ap, ◌∙◌, subst, arith}
use Rattle.vm_facts.specs.declared.stop.NoMemory.{NoMemory}
use Rattle.swap_book.specs.Holdings.{Holdings}
use Rattle.swap_book.specs.Book.{Book}
use Rattle.table_steps.specs.Conditions.{KeepsFlat}
use Rattle.table_steps.specs.Machine.{Standing}
use Rattle.swap_wants.specs.Wants.{found_for, wanted_of}
use Rattle.machine_state.specs.Fields.{standing_of, RunsNow}
use Rattle.machine_state.proofs.Standings.{stands_now, runs_by, runs_within}
use Rattle.machine_state.proofs.Asked.{found_ok, found_none, unlooked, asked_more, asked_none, standing_none, booked, Asked, asked_stands, asked_standing}
use Rattle.machine_state.specs.Going.{CanGoOn}
use Rattle.machine_state.proofs.Stepping.{is_running}
use Rattle.machine_state.proofs.machine.Machine.ask.Goals as goal

pub invariant_of-self : goal.invariant_of-self
invariant_of-self c =
    let view : standing_of c.self.inside ≡ c.args.self.now = c.self.view_is ∙ c.in_ok-make_room.ensures.ok in
    runs_within _ (runs_by c.self.inside c.args.self.now view c.requires.ready.running.runs) (λ _.
    asked_none c.self.inside c.args.self.now c.find_all-found.new.book c.self.invariant view c.requires.ready.running.runs
    (unlooked c.find_all-found.result c.self.inside.tables.book c.find_all-found.new.book c.in_err-or_stop.ensures.unmade c.find_all-found.ensures.err))

pub overflow_sub-self : goal.overflow_sub-self
overflow_sub-self c =
    let b : Book = c.self.inside.tables.book in
    let yes : c.find_all-found.result ≡ Ok true = c.in_ok-or_stop.ensures.made ∙ ap (λ (x : Bool). let r : Result Bool NoMemory = Ok x in r) c.if-branch.true in
    let f = found_ok c.find_all-found.result b c.find_all-found.new.book c.args.wants.now yes c.find_all-found.ensures.answer c.find_all-found.ensures.book in
    let more = asked_more b.size b.holdings f.0 (wanted_of b.holdings c.args.wants.now) f.1 in
    let now = ap (λ (hs : Holdings). length hs) (c.holdings.ensures ∙ ap (λ (x : Book). x.holdings) f.2) in
    let was = ap (λ (hs : Holdings). length hs) c.holdings-before.ensures in
    omega (arith, more, now, was)

asked : (c : goal.After-self-1)
    → (hs : Holdings) × Asked c.self.inside c.args.self.now c.find_all-found.new.book (length c.holdings.result.now - length c.holdings-before.result.now)
    (wanted_of c.self.inside.tables.book.holdings c.args.wants.now) hs
asked c =
    let yes : c.find_all-found.result ≡ Ok true = c.in_ok-or_stop.ensures.made ∙ ap (λ (x : Bool). let r : Result Bool NoMemory = Ok x in r) c.if-branch.true in
    let f = found_ok c.find_all-found.result c.self.inside.tables.book c.find_all-found.new.book c.args.wants.now yes c.find_all-found.ensures.answer c.find_all-found.ensures.book in (
      f.0,
      record {
        view_is = c.self.view_is ∙ c.in_ok-make_room.ensures.ok;
        whole = c.requires.ready.whole;
        placed = f.1;
        book = f.2;
        count = ap (λ (hs : Holdings). length hs - length c.holdings-before.result.now) c.holdings.ensures
            ∙ ap (λ (hs : Holdings). length c.find_all-found.new.book.holdings - length hs) c.holdings-before.ensures;
      },
    )

pub invariant_of-self-then-branch : goal.invariant_of-self-then-branch
invariant_of-self-then-branch c =
    let a = asked c in
    runs_within _ (runs_by c.self.inside c.args.self.now a.1.view_is c.requires.ready.running.runs) (λ _.
    asked_stands c.self.inside c.args.self.now c.find_all-found.new.book _ _ a.0 a.1 c.self.invariant c.requires.ready.running.runs)

pub returns-then-branch-clause-found : goal.returns-then-branch-clause-found
returns-then-branch-clause-found c _ =
    let a = asked c in
    let b : Book = c.self.inside.tables.book in
    let n : RunsNow c.self.inside = stands_now c.self.inside c.args.self.now c.self.invariant a.1.view_is c.requires.ready.running.runs in
    let is : found_for c.self.inside.tables.params.swap_blocks b.holdings c.args.wants.now ≡ Ok a.0 = ap (λ (size : ℕ). found_for size b.holdings c.args.wants.now) (sym n.stands.book) ∙ a.1.placed in
    subst (λ (s : Standing). (hs : Holdings) × (found_for s.params.swap_blocks s.kernel.holdings c.args.wants.now ≡ Ok hs)
    × (standing_of (booked c.self.inside c.find_all-found.new.book (length c.holdings.result.now - length c.holdings-before.result.now)) ≡ record s { kernel = record s.kernel { holdings = hs } }))
    a.1.view_is (a.0, is, asked_standing c.self.inside c.args.self.now c.find_all-found.new.book _ _ a.0 a.1)

pub returns-then-branch-clause-running : goal.returns-then-branch-clause-running
returns-then-branch-clause-running c _ =
    is_running _ _ (invariant_of-self-then-branch c) refl (runs_by c.self.inside c.args.self.now (c.self.view_is ∙ c.in_ok-make_room.ensures.ok) c.requires.ready.running.runs)

pub invariant_of-self-else-branch : goal.invariant_of-self-else-branch
invariant_of-self-else-branch c =
    let view : standing_of c.self.inside ≡ c.args.self.now = c.self.view_is ∙ c.in_ok-make_room.ensures.ok in
    runs_within _ (runs_by c.self.inside c.args.self.now view c.requires.ready.running.runs) (λ _.
    let no : c.find_all-found.result ≡ Ok false = c.in_ok-or_stop.ensures.made ∙ ap (λ (x : Bool). let r : Result Bool NoMemory = Ok x in r) c.if-branch.false in
    asked_none c.self.inside c.args.self.now c.find_all-found.new.book c.self.invariant view c.requires.ready.running.runs
    (found_none c.find_all-found.result c.self.inside.tables.book c.find_all-found.new.book c.args.wants.now no c.find_all-found.ensures.answer c.find_all-found.ensures.book))

pub note-requires-clause-ready : goal.note-requires-clause-ready
note-requires-clause-ready c =
    let no : c.find_all-found.result ≡ Ok false = c.in_ok-or_stop.ensures.made ∙ ap (λ (x : Bool). let r : Result Bool NoMemory = Ok x in r) c.if-branch.false in
    let book = found_none c.find_all-found.result c.self.inside.tables.book c.find_all-found.new.book c.args.wants.now no c.find_all-found.ensures.answer c.find_all-found.ensures.book in
    subst CanGoOn (sym (standing_none c.self.inside c.args.self.now c.find_all-found.new.book (c.self.view_is ∙ c.in_ok-make_room.ensures.ok) book)) c.requires.ready

pub returns-clause-keeps : goal.returns-clause-keeps
returns-clause-keeps c _ images image flat coupled =
    let view : standing_of c.self.inside ≡ c.args.self.now = c.self.view_is ∙ c.in_ok-make_room.ensures.ok in
    let no : c.find_all-found.result ≡ Ok false = c.in_ok-or_stop.ensures.made ∙ ap (λ (x : Bool). let r : Result Bool NoMemory = Ok x in r) c.if-branch.false in
    let book = found_none c.find_all-found.result c.self.inside.tables.book c.find_all-found.new.book c.args.wants.now no c.find_all-found.ensures.answer c.find_all-found.ensures.book in
    subst (λ (x : Standing). KeepsFlat x.kernel c.note.new.self.kernel) (standing_none c.self.inside c.args.self.now c.find_all-found.new.book view book)
    c.in_ok-note.ensures.performs.keeps images image flat coupled

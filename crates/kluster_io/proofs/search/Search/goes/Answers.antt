use Rattle.std.proofs.Common.{◌==◌, ◌&&◌, Bool, sym, ap, ◌∙◌}
use Rattle.kluster_io.proofs.Idle.{idle_joins}
use Rattle.kluster_io.proofs.search.Search.goes.Goals as goal

pub returns-then-is_taken : goal.returns-then-is_taken
returns-then-is_taken c = λ p h e.
    sym (ap (λ (b : Bool). b && (c.chunk_of.result == c.chunk_of-2.result)) c.if-is_taken.true)
    ∙ idle_joins p c.args.self.now.core.now c.args.self.now.space.now c.args.self.now.kin c.args.self.now.page c.beside-page.result c.args.v c.args.place c.in-Idle.locked
    c.in-Idle.front c.is_taken.result
    c.chunk_of.result c.chunk_of-2.result h.space h.page h.front e c.beside-page.ensures c.in-Idle.is c.is_taken.ensures c.chunk_of.ensures c.chunk_of-2.ensures

pub returns-else-is_taken : goal.returns-else-is_taken
returns-else-is_taken c = λ p h e.
    c.if-is_taken.false
    ∙ sym (ap (λ (b : Bool). b && (c.chunk_of.result == c.chunk_of-2.result)) c.if-is_taken.false)
    ∙ idle_joins p c.args.self.now.core.now c.args.self.now.space.now c.args.self.now.kin c.args.self.now.page c.beside-page.result c.args.v c.args.place c.in-Idle.locked
    c.in-Idle.front c.is_taken.result
    c.chunk_of.result c.chunk_of-2.result h.space h.page h.front e c.beside-page.ensures c.in-Idle.is c.is_taken.ensures c.chunk_of.ensures c.chunk_of-2.ensures

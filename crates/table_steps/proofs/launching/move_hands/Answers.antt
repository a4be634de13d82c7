use Rattle.std.proofs.Common.{◌≡◌, ℕ, ◌<◌, length, sym, ap, ◌∙◌, subst, rules}
use Rattle.page_model.specs.Placement.{Placement}
use Rattle.page_model.specs.Hands.{back_run, sweep}
use Rattle.page_laws.proofs.Moves.Stays.{swept_steady}
use Rattle.kernel_tables.specs.View.{placement_of}
use Rattle.kernel_tables.specs.declared.tables.Tables.{Tables}
use Rattle.kernel_tables.specs.Machine.{lists_of}
use Rattle.kernel_tables.specs.Calls.{IsRunOf}
use Rattle.table_steps.proofs.Hands.{Ready, ready, hand_within, moved_hands}
use Rattle.table_steps.proofs.launching.move_hands.Goals as goal

pub sweep-requires : goal.sweep-requires
sweep-requires c =
    let t : Tables = c.args.tables.now in
    let u : Tables = c.expire.new.tables in
    let r : Ready t u c.args.locked.now = ready t u c.args.locked.now c.requires.known c.expire.ensures.lists c.expire.ensures.rest in
    record {
      known = r.known;
      run = subst (λ (p : Placement). IsRunOf (back_run p c.args.locked.now) c.args.lo c.args.n) (sym r.place) c.requires.run;
      room = search rules;
      blocks = r.blocks c.requires.blocks;
      empty = search rules;
      capacity = search rules;
    }

pub advance-requires : goal.advance-requires
advance-requires c =
    let t : Tables = c.args.tables.now in
    let u : Tables = c.expire.new.tables in
    let r : Ready t u c.args.locked.now = ready t u c.args.locked.now c.requires.known c.expire.ensures.lists c.expire.ensures.rest in
    let v : Tables = c.sweep.new.tables in
    record {
      front =
          let e : v.front ≡ t.front = ap (λ (q : Placement). q.front) (c.sweep.ensures.place ∙ ap (λ (q : Placement). sweep q c.args.locked.now) r.place)
          ∙ (swept_steady (placement_of (lists_of t)) c.args.locked.now).front in
          subst (λ (f : ℕ). f < length v.core.slots) (sym e) (hand_within t v t.front (c.sweep.ensures.frames ∙ r.frames) c.requires.front.0 c.requires.front.1);
      back =
          let e : v.back ≡ t.back =
          ap (λ (q : Placement). q.back) (c.sweep.ensures.place ∙ ap (λ (q : Placement). sweep q c.args.locked.now) r.place) ∙ (swept_steady (placement_of (lists_of t)) c.args.locked.now).back in
          subst (λ (f : ℕ). f < length v.core.slots) (sym e) (hand_within t v t.back (c.sweep.ensures.frames ∙ r.frames) c.requires.back.0 c.requires.back.1);
    }

pub returns : goal.returns
returns c =
    moved_hands c.args.tables.now c.expire.new.tables c.sweep.new.tables c.advance.new.tables c.args.locked.now c.requires.known c.expire.ensures.lists c.expire.ensures.rest c.sweep.ensures
    c.advance.ensures.front c.advance.ensures.back c.advance.ensures.rest

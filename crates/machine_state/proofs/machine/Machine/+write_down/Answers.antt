use Rattle.std.proofs.Common.{◌≡◌, ◌∙◌, ℕ, suc, ◌+◌, ◌-◌, ◌*◌, ◌≤◌, List, ◌∷◌, length, take, drop, sym, ap, subst, arith, rules}
use Rattle.std.specs.Prelude.{slice_index_or}
use Rattle.std.specs.Int.{w32, to_le_bytes}
use Rattle.page_model.specs.Placement.{state_of}
use Rattle.kernel_model.specs.Kernel.{Kernel}
use Rattle.table_steps.specs.UserMemory.{write_run, IsOwnPage, WroteRun}
use Rattle.machine_state.specs.Down.{WroteDown}
use Rattle.machine_state.proofs.Downwards.{first_and_rest, running_after, own_after, valid_after, down_more}
use Rattle.machine_state.proofs.machine.Machine.+write_down.Goals as goal

pub write_down-requires : goal.write_down-requires
write_down-requires t c =
    let old = c.args.self.now in
    let q = c.args.page in
    let rest : List ℕ = take (length c.args.longwords.now - 1) (drop 1 c.args.longwords.now) in
    let bytes : List ℕ = c.to_le_bytes.result in
    let split : c.args.longwords.now ≡ slice_index_or c.args.longwords.now 0 0 ∷ rest = first_and_rest c.args.longwords.now 0 c.in-len1-up.len_at_least in
    let long : length c.args.longwords.now ≡ suc (length rest) = ap length split in
    let fits : c.args.at + 4 * suc (length rest) ≤ 1024 = subst (λ (n : ℕ). c.args.at + 4 * n ≤ 1024) long c.requires.within in
    let w : WroteRun old c.write_bytes.new.self q (c.args.at + 4 * length rest) bytes = c.write_bytes.ensures in
    let kernel : c.write_bytes.new.self.kernel ≡ write_run old.kernel q w.frame (c.args.at + 4 * length rest) bytes = ap (λ s. s.kernel) w.machine in (
      omega (arith, c.decreases, long),
      (
        ap (λ (k : Kernel). k.stopped) kernel ∙ running_after old.kernel q w.frame (c.args.at + 4 * length rest) bytes ∙ c.requires.running,
        (
          subst (λ (k : Kernel). IsOwnPage k.place c.args.index q) (sym kernel) (own_after old.kernel q q w.frame (c.args.at + 4 * length rest) bytes c.args.index c.requires.own),
          (
            c.requires.writable,
            (
              ap (λ (k : Kernel). state_of k.place q) kernel
                  ∙ valid_after old.kernel q w.frame (c.args.at + 4 * length rest) bytes c.requires.writable w.valid
                  ∙ (sym w.valid ∙ c.requires.valid),
              (search rules, omega (arith, fits)),
            ),
          ),
        ),
      ),
    )

pub returns : goal.returns
returns t c =
    let old = c.args.self.now in
    let mid = c.write_bytes.new.self in
    let rest : List ℕ = take (length c.args.longwords.now - 1) (drop 1 c.args.longwords.now) in
    let first : ℕ = slice_index_or c.args.longwords.now 0 _ in
    let split : c.args.longwords.now ≡ first ∷ rest = first_and_rest c.args.longwords.now _ c.in-len1-up.len_at_least in
    let w : WroteRun old mid c.args.page (c.args.at + 4 * length rest) (to_le_bytes w32 first) =
    subst (λ (bytes : List ℕ). WroteRun old mid c.args.page (c.args.at + 4 * length rest) bytes) c.to_le_bytes.ensures c.write_bytes.ensures in
    subst (λ (all : List ℕ). WroteDown old c.write_down.new.self c.args.page c.args.at all) (sym split)
    (down_more old mid c.write_down.new.self c.args.page c.args.at first rest c.requires.writable
    (subst (λ (all : List ℕ). c.args.at + 4 * length all ≤ 1024) split c.requires.within) w c.write_down.ensures)

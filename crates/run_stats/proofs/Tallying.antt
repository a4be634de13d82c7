-- The tally of one note more.
use Rattle.std.proofs.Common.{◌≡◌, ◌<◌, ◌≤◌, ◌+◌, ◌-◌, ◌*◌, ◌^◌, ℕ, List, [], ◌∷◌, ◌++◌, length, take, get_or, refl, sym, ap, ◌∙◌, subst, arith}
use Rattle.std.proofs.Math.Path.{fun_ext}
use Rattle.std.proofs.lemmas.List.{length_push, take_more}
use Rattle.std.proofs.lemmas.List.Sums.{sum_by_push}
use Rattle.vm_facts.specs.declared.entry.Entry.{Entry}
use Rattle.process_counts.specs.declared.amounts.Owner.{Owner}
use Rattle.process_counts.specs.declared.amounts.ProcessHead.{ProcessHead}
use Rattle.process_counts.specs.Counts.{total}
use Rattle.run_stats.specs.declared.look.Look.{Look}
use Rattle.run_stats.specs.declared.noting.Note.{Note}
use Rattle.run_stats.specs.declared.heads.PagingHead.{PagingHead}
use Rattle.run_stats.specs.declared.heads.RunHead.{RunHead}
use Rattle.run_stats.specs.declared.heads.Head.{Head}
use Rattle.run_stats.specs.declared.heads.Head.TheVariants.{OfRunner, WrittenOf, OfRun}
use Rattle.run_stats.specs.declared.sums.Tally.{Tally}
use Rattle.run_stats.specs.Amounts.{head_amount, sum_of, larger, smaller, most_held, least_free}
use Rattle.run_stats.specs.Sums.{paging_sum, written_sum, run_sum, sum_in, Tallies}
use Rattle.run_stats.specs.Table.{table_by, stats_text}

most_behind : (first : ℕ) (xs : List Note) (x : Note) → most_held first (xs ++ x ∷ []) ≡ larger (most_held first xs) x.after.held
most_behind first [] x = refl
most_behind first (y ∷ ys) x = most_behind (larger first y.after.held) ys x

least_behind : (first : ℕ) (xs : List Note) (x : Note) → least_free first (xs ++ x ∷ []) ≡ smaller (least_free first xs) x.after.free
least_behind first [] x = refl
least_behind first (y ∷ ys) x = least_behind (smaller first y.after.free) ys x

-- the tally of no note
pub tallies_none : (t : Tally) (first : Look) → ((pid : ℕ) (head : PagingHead) → paging_sum t.paging pid head ≡ 0)
    → ((owner : Owner) → written_sum t.written owner ≡ 0)
    → ((head : RunHead) → run_sum t.run head ≡ 0) → t.most_held ≡ first.held → t.least_free ≡ first.free → Tallies t first []
tallies_none t first paging written run most least = record {
  sums = none;
  small = λ h. omega (arith, none h);
  most = most;
  least = least;
}
  where
    none : (h : Head) → sum_in t h ≡ 0
    none (OfRunner pid head) = paging pid head
    none (WrittenOf owner) = written owner
    none (OfRun head) = run head

pub tallies_more : (t u : Tally) (first : Look) (xs : List Note) (x : Note) → Tallies t first xs
    → ((h : Head) → sum_in u h ≡ sum_in t h + head_amount h x) → ((h : Head) → sum_in u h < sum_in t h + 2 ^ 64)
    → u.most_held ≡ larger t.most_held x.after.held → u.least_free ≡ smaller t.least_free x.after.free → Tallies u first (xs ++ x ∷ [])
tallies_more t u first xs x k value grows most least = record {
  sums = λ h. value h ∙ ap (λ (n : ℕ). n + head_amount h x) (k.sums h) ∙ sym (sum_by_push (head_amount h) xs x);
  small = λ h. omega (arith, grows h, k.small h, length_push xs x);
  most = most ∙ ap (λ (n : ℕ). larger n x.after.held) k.most ∙ sym (most_behind first.held xs x);
  least = least ∙ ap (λ (n : ℕ). smaller n x.after.free) k.least ∙ sym (least_behind first.free xs x);
}

-- the tally of the notes up to one place is that up to the next, once the note there is added
pub tallies_then : (t u : Tally) (first : Look) (xs : List Note) (i : ℕ) (d : Note) → i < length xs → Tallies t first (take i xs)
    → ((h : Head) → sum_in u h ≡ sum_in t h + head_amount h (get_or xs i d)) → ((h : Head) → sum_in u h < sum_in t h + 2 ^ 64)
    → u.most_held ≡ larger t.most_held (get_or xs i d).after.held → u.least_free ≡ smaller t.least_free (get_or xs i d).after.free
    → Tallies u first (take (i + 1) xs)
tallies_then t u first xs i d within k value grows most least =
    subst (λ (ys : List Note). Tallies u first ys) (sym (take_more xs i d within))
    (tallies_more t u first (take i xs) (get_or xs i d) k value grows most least)

-- so it has room for one more
pub tallies_fit : (t : Tally) (first : Look) (xs : List Note) (h : Head) → Tallies t first xs → length xs < 2 ^ 64 - 1 → sum_in t h + 2 ^ 64 ≤ 2 ^ 128
tallies_fit t first xs h k few = omega (arith, k.small h, few)

-- the table by what is counted is the table of the notes
pub table_same : (deeds : ℕ → ProcessHead → ℕ) (t : Tally) (journal : List Entry) (first : Look) (notes : List Note) (p s i : ℕ)
    → ((pid : ℕ) (head : ProcessHead) → deeds pid head ≡ total pid head journal) → Tallies t first notes
    → table_by deeds (sum_in t) journal t.most_held t.least_free p s i ≡ stats_text journal first notes p s i
unfolding stats_text
table_same deeds t journal first notes p s i same k =
    ap (λ (f : ℕ → ProcessHead → ℕ). table_by f (sum_in t) journal t.most_held t.least_free p s i) (fun_ext (λ pid. fun_ext (λ head. same pid head)))
    ∙ ap (λ (f : Head → ℕ). table_by (λ pid head. total pid head journal) f journal t.most_held t.least_free p s i) (fun_ext (λ head. k.sums head))
    ∙ ap (λ (n : ℕ). table_by (λ pid head. total pid head journal) (λ head. sum_of head notes) journal n t.least_free p s i) k.most
    ∙ ap (λ (n : ℕ). table_by (λ pid head. total pid head journal) (λ head. sum_of head notes) journal (most_held first.held notes) n p s i) k.least

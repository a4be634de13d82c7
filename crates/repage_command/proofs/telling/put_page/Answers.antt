use Rattle.std.proofs.Common.{◌≡◌, ◌++◌, codes, decimal, OnOk, sym, subst}
use Rattle.vm_facts.specs.declared.page.Page.{Page}
use Rattle.replay_command.specs.Explaining.{around_number}
use Rattle.repage_command.specs.Telling.{page_words}
use Rattle.repage_command.proofs.LineTexts.{put_together}
use Rattle.repage_command.proofs.telling.put_page.Goals as goal

pub returns-in-Stack : goal.returns-in-Stack
returns-in-Stack c =
    let put = c.put_numbers-in-Stack in
    subst (λ (q : Page). OnOk put.result (put.new.text.items ≡ c.args.text.now.items ++ page_words q)) (sym c.in-Stack.is)
    (put_together put.result put.new.text.items c.args.text.now.items (around_number (codes "stack page ") c.in-Stack.v (codes " of space ")) (decimal c.in-Stack.sid) put.ensures)

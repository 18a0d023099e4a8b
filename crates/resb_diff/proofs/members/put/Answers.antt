use Rattle.resb_diff.proofs.WalkLemmas.{puts_one}
use Rattle.resb_diff.proofs.members.put.Goals as goal

pub returns : goal.returns
returns c =
    puts_one c.args.paths.now c.go_on.new.self c.args.found.now.items c.push.new.self.items _
    c.args.change c.in_ok-path.path c.requires.within c.in_ok-path.ensures.number
    c.in_ok-path.ensures.paths c.in_ok-push.ensures.items

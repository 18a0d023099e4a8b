use Rattle.std.proofs.Common.{refl}
use Rattle.resb_icu_text.proofs.MakingLemmas.{member_made, member_passes, group_made, table_made}
use Rattle.resb_icu_text.proofs.open.make.Goals as goal

pub returns-in-Step : goal.returns-in-Step
returns-in-Step g c =
    rw c.in-Step.is (record {
      comes = λ text ws ks q ends limit a. a;
      grows = λ x t h. (refl, h);
      kept = λ t h. h;
      goes = λ text before h. h;
      spent = λ text. refl;
    })

pub returns-in-Member : goal.returns-in-Member
returns-in-Member g c =
    let adds = c.in_ok-made-in-Member.ensures in
    rw c.in-Member.is (record {
      comes = λ text ws ks q ends. member_made g.B.Build.tree g.B.Build.held c.args.build.now
          c.leaf.new.self text ws ks q c.push_item.new.items c.in-Member.members
          c.in_ok-made-in-Member.made c.in-Member.string c.in-Member.at adds
          c.in_ok-push_item-in-Member.ensures.items (rw c.in-Member.is at c.requires.held);
      grows = adds.2;
      kept = λ t h. member_passes g.B.Build.tree g.B.Build.held c.args.build.now c.leaf.new.self
          _ _ _ _ _ t adds c.in_ok-push_item-in-Member.ensures.items h;
      goes = λ text before h. h;
      spent = λ text. refl;
    })

pub returns-in-Array : goal.returns-in-Array
returns-in-Array g c =
    let adds = c.in_ok-made-in-Array.ensures in
    rw c.in-Array.is (record {
      comes = λ text ws ks q ends. group_made text ws ks q _ _ _ adds.0;
      grows = adds.2;
      kept = λ t h. adds.1 t h;
      goes = λ text before h. h;
      spent = λ text. refl;
    })

pub returns-in-Some : goal.returns-in-Some
returns-in-Some g c =
    let distinct = rw c.in-Some.is at c.in_ok-made-in-Table.ensures.distinct in
    let made = rw c.in-Some.is at c.in_ok-made-in-Table.ensures.made in
    rw c.in-Table.is (record {
      comes = λ text ws ks q ends. table_made text ws ks q _ _ _ _ made.0 distinct ends;
      grows = made.2;
      kept = λ t h. made.1 t h;
      goes = λ text before h. h;
      spent = λ text. refl;
    })

pub returns-in-Leaf : goal.returns-in-Leaf
returns-in-Leaf g c =
    let adds = c.in_ok-made-in-Leaf.ensures in
    rw c.in-Leaf.is (record {
      comes = λ text ws ks q ends. group_made text ws ks q _ _ _ adds.0;
      grows = adds.2;
      kept = λ t h. adds.1 t h;
      goes = λ text before h. h;
      spent = λ text. refl;
    })

pub returns : goal.returns
returns g c =
    rw c.in-Root.is (record {
      comes = λ text ws ks q ends limit a. a;
      grows = λ x t h. (refl, h);
      kept = λ t h. h;
      goes = λ text before h. h.0;
      spent = λ text. refl;
    })

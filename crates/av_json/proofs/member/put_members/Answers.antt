use Rattle.std.proofs.Common.{rules, ◌≡◌, ◌++◌, [], add-one, ap, sym, ◌∙◌, append_assoc, map, take, get_or}
use Rattle.av_json.specs.Member.{joined, member_tokens}
use Rattle.av_json.specs.declared.member.Member.TheVariants.{Text}
use Rattle.av_json.specs.declared.member.Member.{Member}
use Rattle.av_json.proofs.MemberLemmas.{joined_next}
use Rattle.av_json.proofs.member.put_members.Goals as goal

-- what a list of members has past its end
abbrev nothing : Member
nothing = Text (record { ref_ptr = (0, 0); now = [] }) (record { ref_ptr = (0, 0); now = [] })

pub loop-member-preserved : goal.loop-member-preserved
loop-member-preserved c =
    let at = c.loop-member.member-index in
    let ms = c.args.members.now in
    let own = member_tokens (get_or ms at nothing) in
    let before : c.put_member.new.line.before ≡ c.loop-member.line.before = search rules in
    let put : c.put_member.new.line.tokens ≡ c.loop-member.line.tokens ++ own = search rules in (
      before ∙ c.loop-member.invariant.0,
      rw add-one
          (put ∙ ap (λ t. t ++ own) c.loop-member.invariant.1
          ∙ append_assoc c.args.line.now.tokens (joined (map member_tokens (take at ms))) own
          ∙ ap (λ t. c.args.line.now.tokens ++ t) (sym (joined_next member_tokens ms at nothing c.loop-member-test.true))),
    )

use Rattle.std.proofs.Common.{rules}
use Rattle.av_json.proofs.MemberLemmas.{named_digits, named_text}
use Rattle.av_json.proofs.member.put_named.Goals as goal

pub returns-in-Ok : goal.returns-in-Ok
returns-in-Ok c = rw (named_text c.args.name.now c.args.digits_name.now c.args.bytes.now c.in-Ok.ensures.cases.1) (search rules)

pub returns-in_ok-digits-in-Err : goal.returns-in_ok-digits-in-Err
returns-in_ok-digits-in-Err c = rw (named_digits c.args.name.now c.args.digits_name.now c.args.bytes.now c.in-Err.ensures.cases.0) (search rules)

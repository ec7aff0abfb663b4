use Rattle.std.proofs.Common.{◌≡◌, ◌++◌}
use Rattle.av_chart.specs.Story.{posted, posts_of}
use Rattle.av_chart.proofs.happening.posts.post.Given as goal

-- so many were sent
abbrev pub invariant-loop-index : goal.invariant-loop-index
invariant-loop-index l = posts_of l.sent.items ≡ posts_of l.initial.sent.items ++ posted l.at l.first l.index

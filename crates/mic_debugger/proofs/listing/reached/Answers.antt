use Rattle.mic_debugger.proofs.Starting.{start_alone}
use Rattle.mic_debugger.proofs.listing.reached.Goals as goal

pub returns-in_default : goal.returns-in_default
returns-in_default c = record {
  some = λ i e. cc;
  none = λ e start. start_alone _ _ c.image-image.ensures.accepted.accepts c.args.at c.kind_at.result c.in_default.not-Start c.kind_at.ensures start;
}

use Rattle.std.specs.Option.{option_copied}
use Rattle.e_metric.proofs.answers.JoinedAnswers.{of_areas, of_angles, of_segments}
use Rattle.e_metric.proofs.consequence.joined_answer.Goals as goal

pub returns-in_default-areas : goal.returns-in_default-areas
returns-in_default-areas c =
    of_areas c.args.facts.now (option_copied c.args.wanted) c.args.answer.segments c.args.answer.angles c.args.answer.areas c.requires.segments c.requires.angles c.requires.areas
    c.in-No.segments c.in-No-angles.angles c.in-No.is c.in-No-angles.is c.in_default-areas.not-No

pub returns-in_default-angles : goal.returns-in_default-angles
returns-in_default-angles c =
    of_angles c.args.facts.now (option_copied c.args.wanted) c.args.answer.segments c.args.answer.angles c.args.answer.areas c.requires.segments c.requires.angles c.requires.areas
    c.in-No.segments c.prefer_certificate.result c.in-No.is c.in_default-angles.not-No c.prefer_certificate.ensures

pub returns-in_default : goal.returns-in_default
returns-in_default c =
    of_segments c.args.facts.now (option_copied c.args.wanted) c.args.answer.segments c.args.answer.angles c.args.answer.areas c.requires.segments c.requires.angles c.requires.areas
    c.prefer_certificate-in_default.result c.prefer_certificate-in_default-2.result c.in_default.not-No c.prefer_certificate-in_default.ensures c.prefer_certificate-in_default-2.ensures

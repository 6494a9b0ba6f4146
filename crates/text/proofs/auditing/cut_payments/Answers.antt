use Rattle.std.proofs.Common.{rules, ap}
use Rattle.std.proofs.lemmas.Iterator.{YieldsList-from_map_by}
use Rattle.std.proofs.lemmas.Iterator.Consumers.{YieldsList-from_first, map_from_collect}
use Rattle.text.proofs.auditing.cut_payments.Goals as goal
use Rattle.text.specs.Auditing.{payment_bytes}
use Rattle.text.specs.Pieces.{pieces_left, read_piece}

pub returns : goal.returns
returns c =
    let pieces = YieldsList-from_first read_piece pieces_left _ (ap pieces_left c.map.ensures.source) in
    map_from_collect _ c.collect.ensures.ran
    (YieldsList-from_map_by _ (λ p. p.now) payment_bytes pieces c.map.ensures.closure (λ x r q k. search rules))

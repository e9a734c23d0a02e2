use Rattle.mal_parser.proofs.source.SourceReaderReader.line.Goals as goal

pub returns-in-Err-BadToken-clause-err : goal.returns-in-Err-BadToken-clause-err
returns-in-Err-BadToken-clause-err c = λ _.
    (c.reads_texts.ensures c.args.self.now.machine).unspelled c.args.number c.args.self.now c.args.line.now (λ ts s. c.in-Err-BadToken.ensures.bad (cc) ts s)

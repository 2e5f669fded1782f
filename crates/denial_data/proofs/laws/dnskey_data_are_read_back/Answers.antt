use Rattle.denial_data.proofs.WrittenData.{written_dnskey}
use Rattle.denial_data.proofs.laws.dnskey_data_are_read_back.Goals as goal

pub returns : goal.returns
returns c = written_dnskey

mod AddressLemmas
